-- Items of a slice, each by what it shows.
use Rattle.std.proofs.Common.{◌≡◌, ap, Iter, List, map, ◌∙◌, subst}
use Rattle.std.proofs.iter.Yields.{fronts}
use Rattle.std.specs.Slice.Iter.{iter_rest}
use Rattle.std.proofs.lemmas.Iterator.{YieldsList}
use Rattle.std.proofs.lemmas.Iterator.Consumers.{YieldsList-from_shown}
use Rattle.std.proofs.lemmas.List.{length-map}
use mathlib.Core.List.{map-id}

pub yields_shown : {A B : Type 0} (f : A → B) {s : Iter A} (xs : List A) → iter_rest s ≡ xs → YieldsList fronts (λ y. f y.now) s (map f xs)
yields_shown f {s} xs e =
    subst (λ l. YieldsList fronts (λ y. f y.now) s (map f l)) e
    (YieldsList-from_shown fronts (λ y. f y.now) (λ t. map f (iter_rest t)) (λ p q m. length-map _ f ∙ m.0) (λ p x q m. ap (map f) m) s)

-- as they are, without a view
pub map_same : {A : Type 0} (xs : List A) → map (λ (x : A). x) xs ≡ xs
map_same xs = map-id xs
