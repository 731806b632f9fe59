-- Shows that `fill` makes every place blank.
use Rattle.std.proofs.Common.{◌≡◌, List, [], ◌∷◌, length, replicate, refl, ap, ◌∙◌, subst, rules}
use Rattle.std.specs.List.{FoldsTo}
use Rattle.order.proofs.list.fill.Goals as goal

-- each call gives b and leaves f as it is
all_same : {F X : Type 0} (R : F → X → F → Type 0) (f : F) (b : X) → ((x : X) (f' : F) → R f x f' → (x ≡ b) × (f' ≡ f)) → (xs : List X) (last : F) → FoldsTo R f xs last → xs ≡ replicate (length xs) b
all_same R f b h [] last r = refl
all_same R f b h (x ∷ xs) last r =
    let one = h x r.0 r.1 in
    rw one.0 (ap (λ l. b ∷ l) (all_same R f b h xs last (subst (λ k. FoldsTo R k xs last) one.1 r.2)))

pub returns : goal.returns
returns g c =
    let ran = c.fill_with.ensures.ran in
    all_same _ _ c.args.blank (λ x f' k. search rules) c.fill_with.new.self ran.0 ran.1 ∙ ap (λ n. replicate n c.args.blank) c.fill_with.ensures.len
