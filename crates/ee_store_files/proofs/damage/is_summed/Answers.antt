use Rattle.std.proofs.Common.{◌≡◌, ◌-◌, ◌≤◌, ◌%◌, ◌++◌, ◌∙◌, length, take, drop, sym, ap, ap₂, arith, eq-eqb, bytes_eq, length-take-le, drop_at, take-append-drop}
use Rattle.std.proofs.lemmas.List.{take_rest}
use Rattle.std.proofs.lemmas.Slice.Eq.{bytes_eq-Decides}
use Rattle.sqlite_pool.specs.Stored.{sum_bytes, sealed}
use Rattle.ee_store_files.proofs.damage.is_summed.Goals as goal

pub returns : goal.returns
unfolding sealed
returns c =
    let page = c.args.page.now in
    let size = length page - 8 in
    let few : size ≤ length page = omega arith in
    let len : length (take size page) ≡ size = length-take-le size page few in
    let eights : size % 16 ≡ 8 = omega (arith, c.requires.some, c.requires.aligned) in
    let tail = drop size page in
    let sum = sum_bytes (take size page) in
    let test : c.eq.result ≡ bytes_eq tail sum = c.eq.ensures ∙ ap₂ bytes_eq (take_rest page size) c.sum_of.ensures in
    let decides = bytes_eq-Decides tail sum in
    let parts = take-append-drop size page in
    let opened : sealed (take size page) ≡ take size page ++ sum = rw (len, eq-eqb _ 8 eights) in (
      λ yes'. sym parts ∙ ap (λ x. take size page ++ x) (decides.0 (sym test ∙ yes')) ∙ sym opened,
      λ is. test ∙ decides.1 (ap (drop size) (is ∙ opened) ∙ drop_at (take size page) sum size len),
    )
