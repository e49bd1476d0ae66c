-- Counts of faults and of clashes, by the answer of a call.
use Rattle.std.specs.Prelude.{◌≡◌, ℕ, ◌+◌, ◌≤◌}
use Rattle.std.proofs.Common.{◌∙◌, sym, arith, add-zero, inl, inr}
use Rattle.daq_io.specs.Counts.{Rose, RoseBy, RoseJustBy}

-- a rise behind a count that did not fall is one from before it
pub Rose-after : (a b c : ℕ) → a ≤ b → Rose b c → Rose a c
Rose-after a b c h r = omega arith

-- and a count that does not fall keeps a rise
pub Rose-before : (a b c : ℕ) → Rose a b → b ≤ c → Rose a c
Rose-before a b c r h = omega arith

-- A count that rose by so many rose by fewer.
pub RoseBy-fewer : (fewer many a b : ℕ) → fewer ≤ many → RoseBy many a b → RoseBy fewer a b
RoseBy-fewer fewer many a b h r = omega arith

-- What rises behind a rise is added to it.
pub RoseBy-then : (many more a b c : ℕ) → RoseBy many a b → RoseBy more b c → RoseBy (many + more) a c
RoseBy-then many more a b c r s = omega arith

pub RoseJustBy-none : (a b : ℕ) → b ≡ a → RoseJustBy 0 a b
RoseJustBy-none a b e = inl (e ∙ sym (add-zero a))

pub RoseJustBy-then : (many more a b c : ℕ) → RoseJustBy many a b → RoseJustBy more b c → RoseJustBy (many + more) a c
RoseJustBy-then many more a b c (inl p) (inl q) = inl (omega (arith, p, q))
RoseJustBy-then many more a b c (inl p) (inr q) = inr (omega (arith, p, q.0), q.1)
RoseJustBy-then many more a b c (inr p) (inl q) = inr (omega (arith, p.0), omega (arith, p.1, q))
RoseJustBy-then many more a b c (inr p) (inr q) = inr (omega (arith, p.0), q.1)
