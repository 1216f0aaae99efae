use mathlib.Core.Path.{ap, sym, ◌∙◌}
use borrow.Author.Tests.{eqb-true, eq-eqb}
use denote.Floats.{passes}
use lib.Ieee.{Float, binary32, of_bits, to_bits}
use lib.Ieee.Bits.{of_bits-to_bits}
use Rattle.curves.proofs.steady.Goals as goal

pub returns : goal.returns
returns c =
    let x : Float = c.next_pitch.result in
    let a = of_bits-to_bits binary32 x (passes _ c.next_pitch.type_inv) in
    let b = of_bits-to_bits binary32 _ (passes _ c.well_formed.0.1.1.1.1.0.1) in
    let p = c.to_bits.ensures in
    let q = c.to_bits-2.ensures in (
      λ e. sym c.next_pitch.ensures ∙ sym a ∙ ap (of_bits binary32) (sym p ∙ eqb-true _ _ e ∙ q) ∙ b,
      λ e. eq-eqb _ _ (p ∙ ap (to_bits binary32) (c.next_pitch.ensures ∙ e) ∙ sym q),
    )
