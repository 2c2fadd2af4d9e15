-- A number is new, or it comes again.
use Rattle.std.proofs.Common.{◌≡◌, Bool, true, false, not, true≢false, [], ◌∷◌, refl, sym, ◌∙◌}
use Rattle.std.specs.FinMap as finite
use Rattle.ee_desk_model.specs.declared.acts.Request.{Request}
use Rattle.ee_desk_model.specs.Numbers.{number_of}
use Rattle.ee_desk_model.specs.Repeats.{Content}
use Rattle.ee_desk_model.specs.Contents.{content_after}
use Rattle.ee_desk_model.proofs.Lemmas.Requests.{content_after-known}

-- a number that comes again leaves the content
pub known_stays : (S : Content) (q : Request) (is_new : Bool) → is_new ≡ false → is_new ≡ not (finite.contains_key S.kept (number_of q)) → S ≡ content_after S (q ∷ [])
known_stays S q is_new again first = sym (content_after-known S q (negated (finite.contains_key S.kept (number_of q)) (sym again ∙ first)))
  where
    negated : (b : Bool) → false ≡ not b → b ≡ true
    negated true e = refl
    negated false e = absurd (true≢false (sym e))

pub not_known : (is_new known : Bool) → is_new ≡ true → is_new ≡ not known → known ≡ true → ⊥
not_known is_new true new first again = true≢false (sym new ∙ first)
not_known is_new false new first again = true≢false (sym again)

pub not_first : (is_new known : Bool) → is_new ≡ false → is_new ≡ not known → known ≡ false → ⊥
not_first is_new true again first new = true≢false new
not_first is_new false again first new = true≢false (sym first ∙ again)
