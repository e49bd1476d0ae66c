-- Files of a folder stay open as their numbers' uses want, and what is told of numbers where one use changes.
use Rattle.std.specs.Prelude.{◌≡◌, ◌≢◌, ◌⊎◌, ◌==◌, ℕ, Bool, true, false, List, [], ◌∷◌, ◌++◌, length, take, Option, Some, Result, Ok, Err, OnOk, IsTrue, refl}
use Rattle.std.proofs.Common.{ap, sym, subst, ◌∙◌, inl, inr, arith}
use Rattle.std.proofs.lemmas.List.{append-nil, take_all}
use mathlib.Core.List.{IsPrefix}
use Rattle.std.proofs.lemmas.Bool.{eqb-true, eqb-false}
use Rattle.daq_io.proofs.SeenLaws.{KeepsNumbers-from}
use Rattle.daq_io.specs.Seen.{Closes, Creates, Ends, Extends, ExtendsPart, FileDone, KeepsNumber, KeepsOthers, Opens, Reads, Removes, Same, Seen, Writes, close_state, is_state_closed, stored_as, was_left, was_removed}
use Rattle.daq_io.specs.declared.folder.FileState.{FileState}
use Rattle.daq_io.specs.declared.folder.FileState.TheVariants.{Closed, InVain}
use Rattle.daq_io.specs.Uses.{ChangesUse, is_reading, is_writing, name_by, told_numbers, use_at}
use Rattle.daq_io.specs.declared.uses.Usage.{Usage}
use Rattle.daq_io.specs.declared.uses.Usage.TheVariants.{Free, Writing, Reading}
use Rattle.daq_std.specs.Blocks.{given_of, to_hand}
use Rattle.daq_std.specs.BlockTables.{ChangesBlock, IsLetGo, LeavesBlock, OpensBlock, UsesBlock, given_at, given_to_block, opening_at, opening_by}
use Rattle.daq_std.specs.InBlocks.{HasFiles, IsOpenFor}
use Rattle.daq_std.specs.Paths.{path_in}
use Rattle.daq_std.specs.SystemCalls.{OpenedFile, OpenedThenLeft, Opening, new_to_write}
use Rattle.daq_std.specs.declared.blocks.BlockFile.{BlockFile}

by_test : (m n : ℕ) (b : Bool) → (m == n) ≡ b → (m ≡ n) ⊎ (m ≢ n)
by_test m n true same = inl (eqb-true m n same)
by_test m n false other = inr (eqb-false m n other)

same_or_other : (m n : ℕ) → (m ≡ n) ⊎ (m ≢ n)
same_or_other m n = by_test m n (m == n) refl

module _ {F : Type 0} {folder : List ℕ} {uses : List Usage} {old new : List (BlockFile F)} where
  -- The file of one number is used.
  pub uses_keeps : (number : ℕ) → HasFiles folder uses old → UsesBlock old new number → HasFiles folder uses new
  uses_keeps number has used = record {
    count = used.changes.count ∙ has.count;
    opened = λ n. elim (same_or_other n number) as (λ w. IsOpenFor folder (use_at uses n) (opening_at new n)) [
      | inl same ↦ subst (λ k. IsOpenFor folder (use_at uses k) (opening_at new k)) (sym same) (subst (IsOpenFor folder (use_at uses number)) (sym used.opening) (has.opened number))
      | inr other ↦ subst (IsOpenFor folder (use_at uses n)) (sym (ap opening_by (used.changes.others n other))) (has.opened n)
    ];
  }

  -- One number goes on with a file that is open as its new use wants.
  pub opens_keeps : {new_uses : List Usage} {opened : OpenedFile F} {usage : Usage} (number : ℕ) → HasFiles folder uses old → OpensBlock opened old new number → ChangesUse uses new_uses number usage → length new_uses ≡ length uses → IsOpenFor folder usage (Some opened.opening) → HasFiles folder new_uses new
  opens_keeps {new_uses = new_uses} {opened = opened} number has opens changed count wanted = record {
    count = opens.changes.count ∙ has.count ∙ sym count;
    opened = λ n. elim (same_or_other n number) as (λ w. IsOpenFor folder (use_at new_uses n) (opening_at new n)) [
      | inl same ↦ subst (λ k. IsOpenFor folder (use_at new_uses k) (opening_at new k)) (sym same) (subst (λ u. IsOpenFor folder u (opening_at new number)) (sym changed.usage_is) (subst (IsOpenFor folder _) (sym opens.opening) wanted))
      | inr other ↦ subst (λ u. IsOpenFor folder u (opening_at new n)) (sym (changed.others n other)) (subst (IsOpenFor folder (use_at uses n)) (sym (ap opening_by (opens.changes.others n other))) (has.opened n))
    ];
  }

  -- The file of a number in no use is let go.
  pub leaves_keeps : (number : ℕ) → HasFiles folder uses old → LeavesBlock old new number → use_at uses number ≡ Free → HasFiles folder uses new
  leaves_keeps number has leaves free = record {
    count = leaves.changes.count ∙ has.count;
    opened = λ n. elim (same_or_other n number) as (λ w. IsOpenFor folder (use_at uses n) (opening_at new n)) [
      | inl same ↦ subst (λ u. IsOpenFor folder u (opening_at new n)) (sym (ap (use_at uses) same ∙ free)) tt
      | inr other ↦ subst (IsOpenFor folder (use_at uses n)) (sym (ap opening_by (leaves.changes.others n other))) (has.opened n)
    ];
  }

-- One number is in no use any more.
pub frees_keeps : {F : Type 0} {folder : List ℕ} {uses new_uses : List Usage} {blocks : List (BlockFile F)} (number : ℕ) → HasFiles folder uses blocks → ChangesUse uses new_uses number Free → length new_uses ≡ length uses → HasFiles folder new_uses blocks
frees_keeps {folder = folder} {new_uses = new_uses} {blocks = blocks} number has changed count = record {
  count = has.count ∙ sym count;
  opened = λ n. elim (same_or_other n number) as (λ w. IsOpenFor folder (use_at new_uses n) (opening_at blocks n)) [
    | inl same ↦ subst (λ u. IsOpenFor folder u (opening_at blocks n)) (sym (ap (use_at new_uses) same ∙ changed.usage_is)) tt
    | inr other ↦ subst (λ u. IsOpenFor folder u (opening_at blocks n)) (sym (changed.others n other)) (has.opened n)
  ];
}

-- a close leaves a file that is written no more
state_closed : {T E : Type 0} (result : Result T E) → IsTrue (is_state_closed (close_state result))
state_closed (Ok done) = refl
state_closed (Err why) = refl

-- no number is in use for both
not_both : (usage : Usage) → IsTrue (is_reading usage) → IsTrue (is_writing usage) → ⊥
not_both Free reads writes = cc (reads)
not_both (Writing name) reads writes = cc (reads)
not_both (Reading name) reads writes = cc (writes)

module _ {F : Type 0} (uses new_uses : List Usage) (old new : List (BlockFile F)) (done : List FileDone) where
  abbrev before : Seen
  before = told_numbers uses (given_at old) done

  number_kept : (more : List FileDone) (n : ℕ) → use_at new_uses n ≡ use_at uses n → given_at new n ≡ given_at old n → KeepsNumber before (told_numbers new_uses (given_at new) more) n
  number_kept more n same given = record {
    writes = ap is_writing same;
    reads = ap is_reading same;
    name = λ _. ap name_by same;
    left = λ _. refl;
    given = λ _. given;
  }

  module _ (number : ℕ) (blocks : ChangesBlock old new number) where
    others_kept : (more : List FileDone) (usage : Usage) → ChangesUse uses new_uses number usage → KeepsOthers before (told_numbers new_uses (given_at new) more) number
    others_kept more usage changed = λ other differs. number_kept more other (changed.others other differs) (ap given_to_block (blocks.others other differs))

    -- a number that was in no use is one under which a file is made
    pub makes_told : (name : List ℕ) (new_done : List FileDone) → new_done ≡ done → use_at uses number ≡ Free → ChangesUse uses new_uses number (Writing name) → given_at new number ≡ [] → Creates before (told_numbers new_uses (given_at new) new_done) name number []
    makes_told name new_done same free changed nothing = record {
      touches = record { names = refl; others = λ _ _. refl };
      others = others_kept new_done _ changed;
      was_free = record { writes = ap is_writing free; reads = ap is_reading free };
      writes = subst (λ u. IsTrue (is_writing u)) (sym changed.usage_is) refl;
      reads = ap is_reading changed.usage_is;
      named = ap name_by changed.usage_is;
      given = nothing;
      done = same;
      fresh = λ no. absurd (cc (no));
      holds = λ no. absurd (cc (no));
    }

    -- a number that was in no use is one under which a file is read
    pub opens_told : (name : List ℕ) (new_done : List FileDone) → new_done ≡ done → use_at uses number ≡ Free → ChangesUse uses new_uses number (Reading name) → Opens before (told_numbers new_uses (given_at new) new_done) name number []
    opens_told name new_done same free changed = record {
      files = record { names = refl; at = λ _. refl; done = same };
      others = others_kept new_done _ changed;
      was_free = record { writes = ap is_writing free; reads = ap is_reading free };
      writes = ap is_writing changed.usage_is;
      reads = subst (λ u. IsTrue (is_reading u)) (sym changed.usage_is) refl;
      named = ap name_by changed.usage_is;
      there = λ no. absurd (cc (no));
      holds = λ no. absurd (cc (no));
    }

    -- a number that was written, and is in no use any more, is one whose file is closed, whole or in vain
    pub closes_told : (state : FileState) (has name : List ℕ) (new_done : List FileDone) → IsTrue (is_state_closed state) → IsTrue (is_writing (use_at uses number)) → ChangesUse uses new_uses number Free
        → IsPrefix has (given_at old number) → (state ≡ Closed → has ≡ given_at old number) → name_by (use_at uses number) ≡ name → new_done ≡ done ++ was_left name (stored_as state has) ∷ []
        → Closes before (told_numbers new_uses (given_at new) new_done) number state []
    closes_told state has name new_done closed writes changed part whole named is = record {
      leaves = record {
        writes = writes;
        touches = record { names = refl; others = λ _ _. refl };
        others = others_kept new_done _ changed;
        free = record { writes = ap is_writing changed.usage_is; reads = ap is_reading changed.usage_is };
        closed = closed;
        holds = λ no. absurd (cc (no));
        has = has;
        part = subst (IsPrefix has) (sym (append-nil (given_at old number))) part;
        done = is ∙ ap (λ n. done ++ was_left n (stored_as state has) ∷ []) (sym named);
      };
      whole = λ state_is. whole state_is ∙ sym (append-nil (given_at old number));
    }

    -- in vain, where it was let go
    pub gone_told : (gone : OpenedThenLeft) (opening : Option Opening) (name : List ℕ) (new_done : List FileDone) → IsLetGo opening (given_at old number) gone → IsTrue (is_writing (use_at uses number)) → ChangesUse uses new_uses number Free
        → name_by (use_at uses number) ≡ name → new_done ≡ done ++ was_left name gone.left ∷ []
        → Closes before (told_numbers new_uses (given_at new) new_done) number InVain []
    gone_told gone opening name new_done let_go writes changed named is =
        closes_told InVain let_go.has name new_done refl writes changed let_go.part (λ no. absurd (cc (no))) named (is ∙ ap (λ left. done ++ was_left name left ∷ []) let_go.left)

    -- by the answer, where all of it was on the disk
    pub synced_told : {T E : Type 0} (result : Result T E) (has name : List ℕ) (new_done : List FileDone) → has ≡ given_at old number → IsTrue (is_writing (use_at uses number)) → ChangesUse uses new_uses number Free
        → name_by (use_at uses number) ≡ name → new_done ≡ done ++ was_left name (stored_as (close_state result) has) ∷ []
        → Closes before (told_numbers new_uses (given_at new) new_done) number (close_state result) []
    synced_told result has name new_done all writes changed named is =
        closes_told (close_state result) has name new_done (state_closed result) writes changed ([], append-nil has ∙ all) (λ _. all) named is

    -- a number that is in no use any more
    pub ends_told : ChangesUse uses new_uses number Free → Ends before (told_numbers new_uses (given_at new) done) number
    ends_told changed = record {
      files = record { names = refl; at = λ _. refl; done = refl };
      others = others_kept done _ changed;
      free = record { writes = ap is_writing changed.usage_is; reads = ap is_reading changed.usage_is };
    }

module _ {F : Type 0} (uses : List Usage) (old new : List (BlockFile F)) (done : List FileDone) (number : ℕ) (blocks : ChangesBlock old new number) where
  others_used : KeepsOthers (told_numbers uses (given_at old) done) (told_numbers uses (given_at new) done) number
  others_used = λ other differs. number_kept uses uses old new done done other refl (ap given_to_block (blocks.others other differs))

  -- bytes that are given to the file of a number
  pub writes_told : (bytes : List ℕ) → IsTrue (is_writing (use_at uses number)) → Writes (told_numbers uses (given_at old) done) (told_numbers uses (given_at new) done) number bytes
  writes_told bytes writes = record {
    writes = writes;
    touches = record { names = refl; others = λ _ _. refl };
    others = others_used;
    still = refl;
    reads = refl;
    named = refl;
    left = λ _. refl;
    done = refl;
    holds = λ no. absurd (cc (no));
  }

  pub extends_told : (bytes : List ℕ) → IsTrue (is_writing (use_at uses number)) → given_at new number ≡ given_at old number ++ bytes → Extends (told_numbers uses (given_at old) done) (told_numbers uses (given_at new) done) number bytes
  extends_told bytes writes given = record { wrote = writes_told bytes writes; given = given }

  -- of which a first part was taken
  pub extends_part_told : (bytes : List ℕ) → IsTrue (is_writing (use_at uses number)) → IsPrefix (given_at new number) (given_at old number ++ bytes) → ExtendsPart (told_numbers uses (given_at old) done) (told_numbers uses (given_at new) done) number bytes
  extends_part_told bytes writes part = record {
    count = length bytes;
    wrote = writes_told (take (length bytes) bytes) writes;
    given = subst (λ all. IsPrefix (given_at new number) (given_at old number ++ all)) (sym (take_all (length bytes) bytes (omega arith))) part;
  }

  -- bytes that are read are not told
  pub reads_told : (bytes : List ℕ) → IsTrue (is_reading (use_at uses number)) → Reads (told_numbers uses (given_at old) done) (told_numbers uses (given_at new) done) number bytes
  reads_told bytes reads = record {
    files = record { names = refl; at = λ _. refl; done = refl };
    others = others_used;
    was_read = reads;
    writes = refl;
    reads = reads;
    name = refl;
    consumes = λ no. absurd (cc (no));
  }

  -- a number that is read tells nothing of what was given
  pub read_same_told : IsTrue (is_reading (use_at uses number)) → Same (told_numbers uses (given_at old) done) (told_numbers uses (given_at new) done)
  read_same_told reads = record {
    files = record { names = refl; at = λ _. refl; done = refl };
    numbers = KeepsNumbers-from number others_used record {
      writes = refl;
      reads = refl;
      name = λ _. refl;
      left = λ _. refl;
      given = λ writes. absurd (not_both (use_at uses number) reads writes);
    };
  }

-- where no use and no bytes change, nothing that is told does
pub same_told : {F : Type 0} (uses : List Usage) (old new : List (BlockFile F)) (done new_done : List FileDone) → new ≡ old → new_done ≡ done → Same (told_numbers uses (given_at old) done) (told_numbers uses (given_at new) new_done)
same_told uses old new done new_done blocks is = record {
  files = record { names = refl; at = λ _. refl; done = is };
  numbers = λ n. number_kept uses uses old new done new_done n refl (ap (λ b. given_at b n) blocks);
}

-- a file that is opened was given nothing yet
pub opens_nothing : {F : Type 0} {opened : OpenedFile F} {old new : List (BlockFile F)} {number : ℕ} → OpensBlock opened old new number → opened.handed ≡ [] → given_at new number ≡ []
opens_nothing {opened = opened} opens nothing =
    let is = opens.opened_is in
    ap given_to_block opens.block_is ∙ (ap (λ file. given_of file opens.block.broken opens.block.pending.bytes) is.file_is
    ∙ (ap (λ broken. opened.handed ++ to_hand broken opens.block.pending.bytes) is.whole
    ∙ (ap (λ pending. opened.handed ++ pending) is.nothing_pending ∙ (append-nil opened.handed ∙ nothing))))

-- and a file that is gone is not told
pub removes_told : {F : Type 0} (uses : List Usage) (blocks : List (BlockFile F)) (done new_done : List FileDone) (name : List ℕ) → new_done ≡ done ++ was_removed name ∷ [] → Removes (told_numbers uses (given_at blocks) done) (told_numbers uses (given_at blocks) new_done) name
removes_told uses blocks done new_done name is = record {
  touches = record { names = refl; others = λ _ _. refl };
  numbers = λ n. number_kept uses uses blocks blocks done new_done n refl refl;
  done = is;
  gone = λ no. absurd (cc (no));
}

-- the file of a number that is written was opened under the path of its name
pub written_path : (folder : List ℕ) (usage : Usage) (opening : Opening) → IsTrue (is_writing usage) → IsOpenFor folder usage (Some opening) → opening.path ≡ path_in folder (name_by usage)
written_path folder Free opening writes is = absurd (cc (writes))
written_path folder (Writing name) opening writes is = let same : opening ≡ record { how = new_to_write; path = path_in folder name } = cc (is) in ap (λ o. o.path) same
written_path folder (Reading name) opening writes is = absurd (cc (writes))

-- so was one that is written under a name
pub named_path : {F : Type 0} {folder : List ℕ} {uses : List Usage} {blocks : List (BlockFile F)} → HasFiles folder uses blocks → (number : ℕ) (opening : Opening) → IsTrue (is_writing (use_at uses number)) → Some opening ≡ opening_at blocks number
    → (name : List ℕ) → name_by (use_at uses number) ≡ name → opening.path ≡ path_in folder name
named_path {folder = folder} {uses = uses} has number opening writes is name named =
    written_path folder (use_at uses number) opening writes (subst (IsOpenFor folder (use_at uses number)) (sym is) (has.opened number)) ∙ ap (path_in folder) named

-- what holds anyhow holds of an answer that is Ok
pub on_ok : {T E P : Type 0} (r : Result T E) → P → OnOk r P
on_ok (Ok x) p = p
on_ok (Err e) p = tt
