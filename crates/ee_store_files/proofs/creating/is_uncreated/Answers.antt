use Rattle.std.proofs.Common.{rules, ◌≡◌, ◌∙◌, true, sym, subst, ap, inl, le_refl}
use Rattle.std.proofs.lemmas.Result.{err_from_is_err_and}
use Rattle.sqlite_wal.specs.PageSize.{bytes_of}
use Rattle.sqlite_pool.specs.Opening.{IsBlankFile}
use Rattle.sqlite_pool.specs.Stored.{used_size}
use Rattle.sqlite.specs.Files.{image_of, IsTooLong}
use Rattle.sqlite.proofs.FileLemmas.{same_image}
use Rattle.ee_store_files.specs.Files.{IsUncreated}
use Rattle.ee_store_files.proofs.Failing.{blank_fails, fails_wider}
use Rattle.ee_store_files.proofs.creating.is_uncreated.Goals as goal

pub returns-in-Ok-clause-ok : goal.returns-in-Ok-clause-ok
returns-in-Ok-clause-ok g c clean =
    let new_size : bytes_of c.unwrap-size.result ≡ 1024 = search rules in
    let same : image_of g.D.Disk c.refuse_strays.new.files ≡ image_of g.D.Disk c.args.files.now = same_image c.refuse_strays.ensures.log c.refuse_strays.ensures.db in
    let it = c.in-Ok.ensures.ok clean in
    let there : IsBlankFile (used_size (bytes_of c.unwrap-size.result) true) (image_of g.D.Disk c.refuse_strays.new.files) ≡ IsUncreated (image_of g.D.Disk c.args.files.now) =
    ap (λ n. IsBlankFile (used_size n true) (image_of g.D.Disk c.refuse_strays.new.files)) new_size ∙ ap IsUncreated same in
    (λ is. subst (λ (T : Type 0). T) there (it.0 is), λ un. it.1 (subst (λ (T : Type 0). T) (sym there) un))

pub returns-in_err-refuse_strays-clause-cause : goal.returns-in_err-refuse_strays-clause-cause
returns-in_err-refuse_strays-clause-cause g c =
    let p = err_from_is_err_and c.from_residual.result c.from_residual.ensures.1 in
    rw (p.1, p.2) c.in_err-refuse_strays.ensures.cause

pub returns-in-Err-clause-cause : goal.returns-in-Err-clause-cause
returns-in-Err-clause-cause g c clean =
    let same = same_image c.refuse_strays.ensures.log c.refuse_strays.ensures.db in
    let size = bytes_of c.unwrap-size.result in
    let why = blank_fails _ _ size (image_of g.D.Disk c.refuse_strays.new.files) c.in-Err.error (c.in-Err.ensures.cause clean) in
    rw c.probe_error.ensures.value (inl (fails_wider _ _ _ _ _ _ _ c.refuse_strays.ensures.counts (le_refl _) (subst IsTooLong same) why))
