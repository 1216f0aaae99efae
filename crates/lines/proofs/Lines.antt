-- A byte more.
use Rattle.std.proofs.Common.{◌≡◌, ◌++◌, ℕ, List, [], ◌∷◌, take, true, false, sym, append-nil, append_assoc, Option, None, Some}
use Rattle.std.specs.Prelude.{◌==◌}
use mathlib.Core.Path.{◌∙◌, ap}
use Rattle.std.specs.List.{concat}
use Rattle.std.specs.Io.KnownBytes.{Consumes}
use Rattle.std.proofs.lemmas.List.Folds.{concat-append}
use Rattle.lines.specs.Lines.{after}

pub after-feed : (room : ℕ) (s : List (List ℕ) × List ℕ) (byte : ℕ) → (byte == 10) ≡ true → after room s byte ≡ (s.0 ++ s.1 ∷ [], [])
after-feed room s byte is = rw is

pub after-other :
    (room : ℕ) (s : List (List ℕ) × List ℕ) (byte : ℕ) → (byte == 10) ≡ false → after room s byte ≡ (s.0, take room (s.1 ++ byte ∷ []))
after-other room s byte is = rw is

-- one read more
pub Consumes-more :
    (old mid new : Option (List ℕ)) (blocks : List (List ℕ)) (block : List ℕ)
    → Consumes old mid (concat blocks) → Consumes mid new block → Consumes old new (concat (blocks ++ block ∷ []))
Consumes-more None mid new blocks block _ _ = tt
Consumes-more (Some xs) None new blocks block none _ = absurd none
Consumes-more (Some xs) (Some ys) None blocks block _ none = absurd none
Consumes-more (Some xs) (Some ys) (Some zs) blocks block first more =
    first ∙ ap (λ l. concat blocks ++ l) more ∙ sym (append_assoc (concat blocks) block zs)
    ∙ ap (λ l. (concat blocks ++ l) ++ zs) (sym (append-nil block)) ∙ ap (λ l. l ++ zs) (sym (concat-append blocks (block ∷ [])))

pub Consumes-none :
    (old mid new : Option (List ℕ)) (blocks : List (List ℕ)) (n : ℕ) (buffer : List ℕ)
    → n ≡ 0 → Consumes old mid (concat blocks) → Consumes mid new (take n buffer) → Consumes old new (concat blocks)
Consumes-none None mid new blocks n buffer _ _ _ = tt
Consumes-none (Some xs) None new blocks n buffer _ none _ = absurd none
Consumes-none (Some xs) (Some ys) None blocks n buffer _ _ none = absurd none
Consumes-none (Some xs) (Some ys) (Some zs) blocks n buffer none first more = let same : ys ≡ zs = rw none at more in first ∙ ap (λ l. concat blocks ++ l) same
