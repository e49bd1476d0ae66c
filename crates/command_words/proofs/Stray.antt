-- A word for which a level of the command has no place is a fault.
use Rattle.std.proofs.Common.{◌≡◌, ℕ, Bool, true, false, zero, suc, refl, subst, List, [], ◌∷◌, length, Option, Some, None, codes, ap}
use Rattle.std.specs.Prelude.{find, slice_get}
use Rattle.std.specs.Option.{option_map_or}
use Rattle.std.specs.Str.{bytes_eq, chars}
use Rattle.clap.specs.Lexer.{long_of, short_of}
use Rattle.clap.specs.Kinds.{Kinds, or_else}
use Rattle.clap.specs.Simple.{Shape}
use Rattle.clap.specs.Walk.{Held, Names, Outcome, Row, Rule, Step, Text, Walk, after_flag, answers_to, arg_by_index, arg_by_long, arg_by_short, bundle_met, bundle_step, finished, idle, long_or_other, plain, settled, short_or_plain, value, walk, walk_from, walked, word_met}
use Rattle.clap.specs.Faults.{bundle_fault, bundle_step_fault, check_fault, defaults_fault, flag_word_fault, flags_fault, level_fault, settle_fault, step_fault, stray_fault, turn_fault, walk_fault, word_fault}

-- ---- no fault of a list of steps is none of each

pub neither : (a b : Kinds) → or_else a b ≡ [] → (a ≡ []) × (b ≡ [])
neither [] b none = (refl, none)
neither (k ∷ ks) b none = absurd (cc)

pub walk_clean : (s : Shape) (names : Names) (w : Walk) (word : Text) (rest : List Text) → walk_fault s names w (word ∷ rest) ≡ []
    → (turn_fault s names w word ≡ []) × (walk_fault s names (walked s.rules names w word) rest ≡ [])
unfolding walk_fault
walk_clean s names w word rest none = neither (turn_fault s names w word) (walk_fault s names (walked s.rules names w word) rest) none

-- what is told behind the words and the subcommand
abbrev pub end_fault : Shape → Held → Bool → Kinds
end_fault s end has_subcommand =
    or_else (settle_fault s.rules s.args_override_self end)
    (or_else (defaults_fault (settled s.rules end).rows s.rules) (check_fault s (finished s.rules end) has_subcommand))

pub level_clean : (s : Shape) (names : Names) (h : Held) (words : List Text) (has_subcommand : Bool) (below : Kinds)
    → level_fault s names h words has_subcommand below ≡ [] → (walk_fault s names (walk_from h) words ≡ []) × (below ≡ [])
level_clean s names h words has_subcommand below none =
    let end = (walk s.rules names h words).held in
    let parts = neither (walk_fault s names (walk_from h) words) (or_else below (end_fault s end has_subcommand)) none in
    (parts.0, (neither below (end_fault s end has_subcommand) parts.1).0)

-- ---- a word on its way to a positional

-- what is held between two words, and the walk there, where nothing waits for a value
abbrev pub held : List Row → Option (Text × List Text) → Held
held rows pending = record { rows = rows; pending = pending; skip = 0 }

abbrev pub idle_walk : Held → ℕ → Walk
idle_walk h position = record { held = h; waiting = idle; position = position; is_trailing = false; stopped = None }

abbrev pub HasNoShort : List Rule → Type 0
HasNoShort c = (x : ℕ) → arg_by_short c x ≡ None

-- no argument has the long name of the word
abbrev pub HasNoLong : List Rule → Text → Type 0
HasNoLong c word = (p : Text × Option Text) → long_of word ≡ Some p → arg_by_long c p.0 ≡ None

bundle_plain : (c : List Rule) (again : Bool) (h : Held) → HasNoShort c → (k : ℕ) (flags : Text) → flags_fault c again k flags 0 h ≡ []
    → bundle_met c k flags 0 plain h ≡ (h, plain)
unfolding flags_fault bundle_met
bundle_plain c again h no_short zero flags none = refl
bundle_plain c again h no_short (suc k) flags none = go (slice_get (chars flags) 0) none
  where
    go : (o : Option ℕ) → bundle_step_fault c again o flags 0 h (flags_fault c again k) ≡ [] → bundle_step c o flags 0 plain h (bundle_met c k) ≡ (h, plain)
    go None e = refl
    go (Some x) e = let bad = rw (no_short x) at e in absurd (cc)

-- a word that is no fault, and no argument's by its name, goes to a positional
pub value_word : (s : Shape) (names : Names) (word : Text) (rows : List Row) (pending : Option (Text × List Text)) (position : ℕ)
    → find (answers_to word) names ≡ None → bytes_eq word (codes "--") ≡ false → HasNoLong s.rules word → HasNoShort s.rules
    → word_fault s names false idle word (held rows pending) ≡ []
    → word_met s.rules names false idle position word (held rows pending) ≡ (held rows pending, value)
value_word s names word rows pending position unnamed unlike no_long no_short none =
    rw (unnamed, unlike) (long (long_of word) refl (rw (unnamed, unlike) at none))
  where
    short : (o : Option Text) → option_map_or (λ flags. bundle_fault s.rules s.args_override_self flags (held rows pending)) o [] ≡ []
        → short_or_plain s.rules idle word o (held rows pending) ≡ (held rows pending, value)
    short None e = refl
    short (Some flags) e =
        ap (λ (p : Held × Outcome). after_flag s.rules idle word p.0 p.1) (bundle_plain s.rules s.args_override_self (held rows pending) no_short (length flags) flags e)

    long : (o : Option (Text × Option Text)) → long_of word ≡ o → flag_word_fault s.rules s.args_override_self o word (held rows pending) ≡ []
        → long_or_other s.rules idle word o (held rows pending) ≡ (held rows pending, value)
    long None is e = short (short_of word) e
    long (Some p) is e = let bad = rw (no_long p is) at e in absurd (cc)

pub turn_clean : (s : Shape) (names : Names) (h : Held) (position : ℕ) (word : Text) → turn_fault s names (idle_walk h position) word ≡ []
    → (word_fault s names false idle word h ≡ [])
    × (step_fault s position (word_met s.rules names false idle position word h).0 (word_met s.rules names false idle position word h).1 ≡ [])
turn_clean s names h position word none =
    let met = word_met s.rules names false idle position word h in
    neither (word_fault s names false idle word h) (step_fault s position met.0 met.1) none

-- where no positional is left
pub stray_is_fault : (s : Shape) (names : Names) (word : Text) (rows : List Row) (pending : Option (Text × List Text)) (position : ℕ)
    → find (answers_to word) names ≡ None → bytes_eq word (codes "--") ≡ false → HasNoLong s.rules word → HasNoShort s.rules
    → arg_by_index s.rules position ≡ None → turn_fault s names (idle_walk (held rows pending) position) word ≡ [] → ⊥
stray_is_fault s names word rows pending position unnamed unlike no_long no_short no_place none =
    let parts = turn_clean s names (held rows pending) position word none in
    let met = value_word s names word rows pending position unnamed unlike no_long no_short parts.0 in
    let step = subst (λ (m : Held × Step). step_fault s position m.0 m.1 ≡ []) met parts.1 in
    leaf s.is_leaf refl (rw no_place at step)
  where
    leaf : (b : Bool) → s.is_leaf ≡ b → stray_fault s ≡ [] → ⊥
    leaf true is e = let bad = rw is at e in absurd (cc)
    leaf false is e = let bad = rw is at e in absurd (cc)
