-- A line as far as it was read.
use Rattle.std.proofs.Common.{◌≡◌, ◌≢◌, ◌∙◌, ℕ, zero, suc, ◌+◌, ◌-◌, ◌<◌, ◌≤◌, Bool, true, false, List, [], ◌∷◌, ◌++◌, length, take, Option, Some, None, refl, ap, sym, arith, if◌then◌else◌, ◌==◌, slice_index, append_assoc, length-append, length-take}
use Rattle.std.proofs.lemmas.List.{append-nil, take_all, take-take}
use Rattle.std.proofs.lemmas.List.Elements.{All-append, All-nil}
use Rattle.std.proofs.lemmas.Bool.{cases_lt}
use Rattle.std.proofs.Math.Logic.{⊎_elim}
use Rattle.std.specs.Str.Lines.{strip_carriage_return}
use Rattle.std.specs.Io.KnownBytes.{Consumes, IsAtEnd, Keeps}
use Rattle.daq_io.specs.Told.{SourceTold}
use Rattle.odb_script.specs.Lines.{SourceGives, Reading, Takes, ReadsLine, ReadsLast, ReadsNone, ReadsTooMuch, ReadsPart, script_limit}
use Rattle.odb_script.specs.Advances.{Refills, Scans}

-- a part of the line was passed, and no end
pub record SoFar (old now : Reading) (before after : SourceTold) : Type 0 where
  pub part : List ℕ
  pub takes : Takes old before after part now.pending
  pub line : now.line ≡ take 4098 part
  pub taken : now.taken ≡ old.taken + length part
  pub within : now.taken ≤ script_limit

pub Consumes-nil : (a : Option (List ℕ)) → Consumes a a []
Consumes-nil None = tt
Consumes-nil (Some xs) = refl

pub Consumes-trans : (a b c : Option (List ℕ)) (xs ys : List ℕ) → Consumes a b xs → Consumes b c ys → Consumes a c (xs ++ ys)
Consumes-trans None b c xs ys p q = tt
Consumes-trans (Some x) None c xs ys p q = absurd p
Consumes-trans (Some x) (Some y) None xs ys p q = absurd q
Consumes-trans (Some x) (Some y) (Some z) xs ys p q = p ∙ ap (λ rest. xs ++ rest) q ∙ sym (append_assoc xs ys z)

Consumes-kept : (a b c : Option (List ℕ)) (xs : List ℕ) → Consumes a b xs → Keeps b c → Consumes a c xs
Consumes-kept None b c xs p q = tt
Consumes-kept (Some x) None c xs p q = absurd p
Consumes-kept (Some x) (Some y) None xs p q = absurd q
Consumes-kept (Some x) (Some y) (Some z) xs p q = p ∙ ap (λ rest. xs ++ rest) (sym q)

-- The same of the bytes that a source gave.

pub SourceGives-nil : (a : SourceTold) → SourceGives a a []
SourceGives-nil a = record { gave = sym (append-nil a.gave); consumed = Consumes-nil a.left }

pub SourceGives-trans : (a b c : SourceTold) (xs ys : List ℕ) → SourceGives a b xs → SourceGives b c ys → SourceGives a c (xs ++ ys)
SourceGives-trans a b c xs ys p q = record {
  gave = q.gave ∙ ap (λ (l : List ℕ). l ++ ys) p.gave ∙ append_assoc a.gave xs ys;
  consumed = Consumes-trans a.left b.left c.left xs ys p.consumed q.consumed;
}

SourceGives-kept : (a b c : SourceTold) (xs : List ℕ) → SourceGives a b xs → Keeps b.left c.left → c.gave ≡ b.gave → SourceGives a c xs
SourceGives-kept a b c xs p kept same = record { gave = same ∙ p.gave; consumed = Consumes-kept a.left b.left c.left xs p.consumed kept }

-- nothing was passed yet
pub so_far_first : (old now : Reading) (before : SourceTold) → now.pending ≡ old.pending → now.line ≡ [] → now.taken ≡ old.taken → old.taken ≤ script_limit → SoFar old now before before
so_far_first old now before p l t w = record {
  part = [];
  takes = record { more = []; gives = SourceGives-nil before; bytes = append-nil old.pending ∙ sym p; plain = All-nil (λ b. b ≢ 10) };
  line = l;
  taken = omega (arith, t);
  within = omega (arith, t, w);
}

-- more is pending
pub so_far_refilled : (old now new : Reading) (before mid after : SourceTold) → SoFar old now before mid → Refills now new mid after → SoFar old new before after
so_far_refilled old now new before mid after s f = record {
  part = s.part;
  takes = record {
    more = s.takes.more ++ f.more;
    gives = SourceGives-trans before mid after s.takes.more f.more s.takes.gives f.gives;
    bytes = sym (append_assoc old.pending s.takes.more f.more) ∙ ap (λ xs. xs ++ f.more) s.takes.bytes
        ∙ append_assoc s.part now.pending f.more ∙ ap (λ xs. s.part ++ xs) f.pending;
    plain = s.takes.plain;
  };
  line = f.line ∙ s.line;
  taken = f.taken ∙ s.taken;
  within = omega (arith, f.taken, s.within);
}

-- what is kept of a line in two parts
pub take-take-append : (n : ℕ) (front part : List ℕ) → take n (take n front ++ part) ≡ take n (front ++ part)
take-take-append zero front part = refl
take-take-append (suc n) [] part = refl
take-take-append (suc n) (x ∷ front) part = ap (λ xs. x ∷ xs) (take-take-append n front part)

pub so_far_more : (old now new : Reading) (before after : SourceTold) (part : List ℕ) → (s : SoFar old now before after) → Scans now new part new.pending 0 → SoFar old new before after
so_far_more old now new before after part s m = record {
  part = s.part ++ part;
  takes = record {
    more = s.takes.more;
    gives = s.takes.gives;
    bytes = s.takes.bytes ∙ ap (λ xs. s.part ++ xs) m.bytes ∙ sym (append_assoc s.part part new.pending);
    plain = All-append (λ b. b ≢ 10) s.part part s.takes.plain m.plain;
  };
  line = m.line ∙ ap (λ xs. take 4098 (xs ++ part)) s.line ∙ take-take-append 4098 s.part part;
  taken = omega (arith, m.taken, s.taken, length-append s.part part);
  within = m.within;
}

-- what is kept of a line is the same with its last byte and without
take-either : (b : Bool) (n m : ℕ) (line : List ℕ) → n ≤ m → take n (if b then take m line else line) ≡ take n line
take-either true n m line h = take-take n m line h
take-either false n m line h = refl

take-strip : (n : ℕ) (line : List ℕ) → n < length line → take n (strip_carriage_return line) ≡ take n line
take-strip n line h = take-either (slice_index line (length line - 1) == 13) n (length line - 1) line (omega (arith, h))

-- the carriage return at the end of a line that is kept
pub kept_strip : (n : ℕ) (part : List ℕ) → take n (strip_carriage_return (take (n + 1) part)) ≡ take n (strip_carriage_return part)
kept_strip n part = ⊎_elim
    (λ longer. take-strip n (take (n + 1) part) (omega (arith, length-take (n + 1) part, longer)) ∙ take-take n (n + 1) part (omega arith)
    ∙ sym (take-strip n part (omega (arith, longer))))
    (λ fits. ap (λ xs. take n (strip_carriage_return xs)) (take_all (n + 1) part fits))
    (cases_lt (n + 1) (length part))

-- The answers.

pub reads_line : (old now mid : Reading) (before after : SourceTold) (part : List ℕ) → SoFar old now before after → Scans now mid part (10 ∷ mid.pending) 1
    → (line : List ℕ) × ReadsLine old (record mid { line = take 4097 (strip_carriage_return mid.line) }) before after line
reads_line old now mid before after part s m = (
  strip_carriage_return (s.part ++ part),
  record {
    part = s.part ++ part;
    takes = record {
      more = s.takes.more;
      gives = s.takes.gives;
      bytes = s.takes.bytes ∙ ap (λ xs. s.part ++ xs) m.bytes ∙ sym (append_assoc s.part part (10 ∷ mid.pending));
      plain = All-append (λ b. b ≢ 10) s.part part s.takes.plain m.plain;
    };
    stripped = refl;
    keeps = ap (λ xs. take 4097 (strip_carriage_return xs)) (m.line ∙ ap (λ xs. take 4098 (xs ++ part)) s.line ∙ take-take-append 4098 s.part part) ∙ kept_strip 4097 (s.part ++ part);
    taken = omega (arith, m.taken, s.taken, length-append s.part part);
    within = m.within;
  },
)

pub reads_last : (old now new : Reading) (before mid after : SourceTold) → SoFar old now before mid → Refills now new mid after → new.pending ≡ [] → IsAtEnd after.left → 0 < length new.line
    → (line : List ℕ) × ReadsLast old (record new { line = take 4097 new.line }) before after line
reads_last old now new before mid after s f p e some =
    let t : SoFar old new before after = so_far_refilled old now new before mid after s f in (
      t.part,
      record {
        takes = record { more = t.takes.more; gives = t.takes.gives; bytes = t.takes.bytes ∙ ap (λ xs. t.part ++ xs) p; plain = t.takes.plain };
        some = omega (arith, some, ap (length {A = ℕ}) t.line, length-take 4098 t.part);
        at_end = e;
        none_pending = p;
        keeps = ap (take 4097) t.line ∙ take-take 4097 4098 t.part (omega arith);
        taken = t.taken;
        within = t.within;
      },
    )

pub reads_too_much : (old now : Reading) (before after : SourceTold) → SoFar old now before after → 0 < length now.pending → now.taken ≡ script_limit → ReadsTooMuch old now before after
reads_too_much old now before after s some full = record { part = s.part; takes = s.takes; more = some; taken = s.taken; limit = full }

take-none : (n : ℕ) (xs : List ℕ) → take (suc n) xs ≡ [] → xs ≡ []
take-none n [] e = refl
take-none n (x ∷ xs) e = cc

pub reads_none : (old now new : Reading) (before mid after : SourceTold) → SoFar old now before mid → Refills now new mid after → new.pending ≡ [] → IsAtEnd after.left → new.line ≡ []
    → ReadsNone old (record new { line = take 4097 new.line }) before after
reads_none old now new before mid after s f p e none =
    let t : SoFar old new before after = so_far_refilled old now new before mid after s f in
    let part : t.part ≡ [] = take-none 4097 t.part (sym t.line ∙ none) in record {
      takes = record { more = t.takes.more; gives = t.takes.gives; bytes = t.takes.bytes ∙ ap (λ xs. xs ++ new.pending) part ∙ p; plain = All-nil (λ b. b ≢ 10) };
      at_end = e;
      none_pending = p;
      taken = omega (arith, t.taken, ap (length {A = ℕ}) part);
    }

pub reads_part : (old now new : Reading) (before mid after : SourceTold) → SoFar old now before mid → new ≡ now → now.pending ≡ [] → Keeps mid.left after.left → after.gave ≡ mid.gave → ReadsPart old new before after
reads_part old now new before mid after s same p kept gave = record {
  part = s.part;
  takes = record {
    more = s.takes.more;
    gives = SourceGives-kept before mid after s.takes.more s.takes.gives kept gave;
    bytes = s.takes.bytes ∙ ap (λ (r : Reading). s.part ++ r.pending) (sym same);
    plain = s.takes.plain;
  };
  none_pending = ap (λ (r : Reading). r.pending) same ∙ p;
  taken = ap (λ (r : Reading). r.taken) same ∙ s.taken;
  within = omega (arith, ap (λ (r : Reading). r.taken) same, s.within);
}
