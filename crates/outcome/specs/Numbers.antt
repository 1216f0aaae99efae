-- The numbers of the refusals (document 01, the table in "What a call replies").
use Rattle.std.specs.Prelude.{ℕ}
use Rattle.outcome.specs.declared.Refusal.{Refusal}
use Rattle.outcome.specs.declared.Refusal.TheVariants.{
  Malformed,
  OutsideLimits,
  NotFinite,
  Frames,
  BlockOpen,
  NoBlock,
  LentLength,
  NoHandleLeft,
  NoSuchPlace,
  CutShort,
}

abbrev pub number_of : Refusal → ℕ
number_of Malformed = 1
number_of OutsideLimits = 2
number_of NotFinite = 3
number_of Frames = 4
number_of BlockOpen = 5
number_of NoBlock = 6
number_of LentLength = 7
number_of NoHandleLeft = 8
number_of NoSuchPlace = 9
number_of CutShort = 10
