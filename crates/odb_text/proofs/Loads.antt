-- A text is loaded: from the lines so far to the next ones.
use Rattle.std.proofs.Common.{◌≡◌, ◌≢◌, ℕ, suc, ◌+◌, ◌<◌, ◌≤◌, List, [], ◌∷◌, ◌++◌, length, Option, Some, None, Result, Ok, refl, sym, ap, ◌∙◌, subst, arith, inl, inr, ⊎_elim, Bool}
use Rattle.std.proofs.lemmas.List.{append-nil, append_assoc, length-append, length_push}
use Rattle.std.proofs.lemmas.List.Sums.{sum_by_push}
use Rattle.odb_tree.specs.declared.refusals.OdbRefusal.{OdbRefusal}
use Rattle.odb_tree.specs.declared.notes.Watch.{Watch}
use Rattle.odb_tree.specs.Rows.{Rows}
use Rattle.odb_tree.specs.Noting.{Change, Watched, all_noted}
use Rattle.odb_tree.proofs.Noted.{none_noted, all_noted_append}
use Rattle.odb_text.specs.LineForms.{IsPassed}
use Rattle.odb_text.specs.declared.acts.Act.{Act}
use Rattle.odb_text.specs.declared.acts.Act.TheVariants.{Make, Write, Skip}
use Rattle.odb_text.specs.declared.acts.Loaded.{Loaded}
use Rattle.odb_text.specs.declared.acts.LoadRefusal.{LoadRefusal}
use Rattle.odb_text.specs.declared.acts.LoadRefusal.TheVariants.{BadLine, KeyRefused, NoMemory}
use Rattle.std.specs.Option.{option_or}
use Rattle.std.specs.Str.Lines.{lines}
use Rattle.daq_types.specs.declared.types.Tid.{Tid}
use Rattle.odb_tree.specs.declared.refusals.OdbRefusal.TheVariants.{NoKey, Exists, NotDir, NotValue, TypeMismatch, BadIndex, Limit, NotKept, BadLink, NoMemory as none_left}
use Rattle.odb_value.specs.Values.{items_limit}
use Rattle.odb_text.specs.declared.faults.BlockFault.{BlockFault}
use Rattle.odb_text.specs.declared.faults.BlockFault.TheVariants.{Bad, Refused, NoMemory as no_memory}
use Rattle.odb_text.specs.Blocks.{IsBlock, IsBadAt, IsBegunAt, IsBlockFault}
use Rattle.odb_text.specs.TextSteps.{TextStep, run_steps, or_refused, act_fault, rows_fault, after_act, changes_of_act, changes_in_steps, written, skipped, dir_after, dirs_after}
use Rattle.odb_text.specs.Grammar.{SizedItem, AreItemLines, SpellsAct, SpellsSteps, ArePassed}
use Rattle.odb_text.specs.TextFaults.{IsBegunArray, IsBegunSkipped, LeavesGrammar, IsRefused, BeginsStep, IsTextFault}
use Rattle.odb_text.proofs.Written.{block_begun}
use Rattle.odb_text.specs.Loads.{IsLoaded, watched_as, IsLoadedTo, counts_with, Place, IsPassedOver, DoesStep, AdvancesText, RefusesFirst, IsTextFaultAt, place_at, IsRoomy, IsNear, broken_at, refused_at}

-- one line more is passed over

passed_push : (lines : List (List ℕ)) (line : List ℕ) → ArePassed lines → IsPassed line → ArePassed (lines ++ line ∷ [])
passed_push [] line h k = (k, tt)
passed_push (l ∷ ls) line h k = (h.0, passed_push ls line h.1 k)

pub spells_passed : (links : Bool) (number : ℕ) (dir lines : List (List ℕ)) (steps : List TextStep) (line : List ℕ) → SpellsSteps links number dir lines steps → IsPassed line
    → SpellsSteps links number dir (lines ++ line ∷ []) steps
spells_passed links number dir lines [] line h k = passed_push lines line h k
spells_passed links number dir lines (step ∷ steps) line h k =
    let passed = h.0 in let own = h.1 in let rest = h.2 in (
      passed,
      own,
      rest ++ line ∷ [],
      ap (λ (l : List (List ℕ)). l ++ line ∷ []) h.3 ∙ append_assoc passed (own ++ rest) (line ∷ []) ∙ ap (λ (l : List (List ℕ)). passed ++ l) (append_assoc own rest (line ∷ [])),
      h.4,
      h.5,
      h.6,
      spells_passed links (number + length passed + length own) (dir_after dir step.act) rest steps line h.7 k,
    )

-- one step more

abbrev pub one_step : ℕ → Act → TextStep
one_step n act = record { line = n; act = act }

pub spells_step : (links : Bool) (number : ℕ) (dir lines : List (List ℕ)) (steps : List TextStep) (own : List (List ℕ)) (act : Act) → SpellsSteps links number dir lines steps
    → SpellsAct links (dirs_after dir steps) own act → SpellsSteps links number dir (lines ++ own) (steps ++ one_step (number + length lines) act ∷ [])
spells_step links number dir lines [] own act h k = (lines, own, [], ap (λ (l : List (List ℕ)). lines ++ l) (sym (append-nil own)), h, refl, k, tt)
spells_step links number dir lines (step ∷ steps) own act h k =
    let passed = h.0 in let mine = h.1 in let rest = h.2 in
    let len : length lines ≡ length passed + (length mine + length rest) = omega (arith, ap (length {A = List ℕ}) h.3, length-append passed (mine ++ rest), length-append mine rest) in (
      passed,
      mine,
      rest ++ own,
      ap (λ (l : List (List ℕ)). l ++ own) h.3 ∙ append_assoc passed (mine ++ rest) own ∙ ap (λ (l : List (List ℕ)). passed ++ l) (append_assoc mine rest own),
      h.4,
      h.5,
      h.6,
      subst (λ (n : ℕ). SpellsSteps links (number + length passed + length mine) (dir_after dir step.act) (rest ++ own) (steps ++ one_step n act ∷ []))
          (let e : number + length passed + length mine + length rest ≡ number + length lines = omega (arith, len) in e)
          (spells_step links (number + length passed + length mine) (dir_after dir step.act) rest steps own act h.7 k),
    )

-- what steps do

pub dirs_push : (dir : List (List ℕ)) (steps : List TextStep) (step : TextStep) → dirs_after dir (steps ++ step ∷ []) ≡ dir_after (dirs_after dir steps) step.act
dirs_push dir [] step = refl
dirs_push dir (s ∷ ss) step = dirs_push (dir_after dir s.act) ss step

runs_push : (steps : List TextStep) (s now : Rows) (step : TextStep) → run_steps steps s ≡ Ok now → act_fault now step.act ≡ None
    → run_steps (steps ++ step ∷ []) s ≡ Ok (after_act now step.act)
runs_push [] s now step h k =
    let same : s ≡ now = cc in
    subst (λ (r : Rows). or_refused step.line (act_fault r step.act) (Ok (after_act r step.act)) ≡ Ok (after_act now step.act)) (sym same)
    (ap (λ (o : Option OdbRefusal). or_refused step.line o (Ok (after_act now step.act))) k)
runs_push (x ∷ xs) s now step h k = cases (act_fault s x.act) (λ e. runs_push xs (after_act s x.act) now step e k) h
  where
    cases : (o : Option OdbRefusal) → (run_steps xs (after_act s x.act) ≡ Ok now → run_steps (xs ++ step ∷ []) (after_act s x.act) ≡ Ok (after_act now step.act))
        → or_refused x.line o (run_steps xs (after_act s x.act)) ≡ Ok now → or_refused x.line o (run_steps (xs ++ step ∷ []) (after_act s x.act)) ≡ Ok (after_act now step.act)
    cases None go e = go e
    cases (Some why) go e = absurd (cc)

pub runs_on : (line : ℕ) (o : Option OdbRefusal) (r : Result Rows (ℕ × OdbRefusal)) (now : Rows) → or_refused line o r ≡ Ok now → (o ≡ None) × (r ≡ Ok now)
runs_on line None r now e = (refl, e)
runs_on line (Some why) r now e = absurd (cc)

changes_push : (steps : List TextStep) (s now : Rows) (step : TextStep) → run_steps steps s ≡ Ok now → changes_in_steps s (steps ++ step ∷ []) ≡ changes_in_steps s steps ++ changes_of_act now step.act
changes_push [] s now step h =
    let same : s ≡ now = cc in append-nil (changes_of_act s step.act) ∙ ap (λ (r : Rows). changes_of_act r step.act) same
changes_push (x ∷ xs) s now step h =
    let r = runs_on x.line (act_fault s x.act) (run_steps xs (after_act s x.act)) now h in
    ap (λ (l : List Change). changes_of_act s x.act ++ l) (changes_push xs (after_act s x.act) now step r.1)
    ∙ sym (append_assoc (changes_of_act s x.act) (changes_in_steps (after_act s x.act) xs) (changes_of_act now step.act))

-- the whole of it

pub nothing_loaded : (s : Watched) (all dir : List (List ℕ)) → dir ≡ [] → IsLoadedTo s all (record { rest = all; line = 1; dir = dir; loaded = record { keys = 0; skipped = 0 } }) s
nothing_loaded s all dir e = record {
  front = [];
  whole = refl;
  so_far = record { steps = []; reads = tt; ran = refl; noted = sym (none_noted s.slots); keys = refl; skipped = refl };
  dir_is = e;
  line_is = refl;
}

after_pass : (s : Watched) (lines : List (List ℕ)) (old new : Place) (before after : Watched) → IsLoadedTo s lines old before → IsPassedOver old new before after → IsLoadedTo s lines new after
after_pass s lines old new before after h p = record {
  front = h.front ++ p.own ∷ [];
  whole = h.whole ∙ ap (λ (l : List (List ℕ)). h.front ++ l) p.whole ∙ sym (append_assoc h.front (p.own ∷ []) new.rest);
  so_far = record {
    steps = h.so_far.steps;
    reads = spells_passed s.rows.links 1 [] h.front h.so_far.steps p.own h.so_far.reads p.passed;
    ran = h.so_far.ran ∙ ap (λ (w : Watched). Ok w.rows) (sym p.same_state);
    noted = ap (λ (w : Watched). w.slots) p.same_state ∙ h.so_far.noted;
    keys = ap (λ (l : Loaded). l.keys) p.same_count ∙ h.so_far.keys;
    skipped = ap (λ (l : Loaded). l.skipped) p.same_count ∙ h.so_far.skipped;
  };
  dir_is = p.same_dir ∙ h.dir_is;
  line_is = omega (arith, p.next, h.line_is, length_push h.front p.own);
}

after_step : (s : Watched) (lines : List (List ℕ)) (old new : Place) (before after : Watched) → IsLoadedTo s lines old before → DoesStep s.rows.links old new before after → IsLoadedTo s lines new after
after_step s lines old new before after h p =
    let step : TextStep = one_step (1 + length h.front) p.act in
    record {
      front = h.front ++ p.own;
      whole = h.whole ∙ ap (λ (l : List (List ℕ)). h.front ++ l) p.whole ∙ sym (append_assoc h.front p.own new.rest);
      so_far = record {
        steps = h.so_far.steps ++ step ∷ [];
        reads = spells_step s.rows.links 1 [] h.front h.so_far.steps p.own p.act h.so_far.reads (subst (λ (d : List (List ℕ)). SpellsAct s.rows.links d p.own p.act) h.dir_is p.spells);
        ran = runs_push h.so_far.steps s.rows before.rows step h.so_far.ran p.fine ∙ ap (λ (w : Watched). Ok w.rows) (sym p.new_state);
        noted = ap (λ (w : Watched). w.slots) p.new_state
            ∙ ap (λ (l : List (Option Watch)). all_noted (changes_of_act before.rows p.act) l) h.so_far.noted
            ∙ sym (all_noted_append s.slots (changes_in_steps s.rows h.so_far.steps) (changes_of_act before.rows p.act))
            ∙ ap (λ (l : List Change). all_noted l s.slots) (sym (changes_push h.so_far.steps s.rows before.rows step h.so_far.ran));
        keys = ap (λ (l : Loaded). l.keys) p.one_more ∙ ap (λ (n : ℕ). n + written p.act) h.so_far.keys ∙ sym (sum_by_push (λ (x : TextStep). written x.act) h.so_far.steps step);
        skipped = ap (λ (l : Loaded). l.skipped) p.one_more ∙ ap (λ (n : ℕ). n + skipped p.act) h.so_far.skipped ∙ sym (sum_by_push (λ (x : TextStep). skipped x.act) h.so_far.steps step);
      };
      dir_is = p.new_dir ∙ ap (λ (d : List (List ℕ)). dir_after d p.act) h.dir_is ∙ sym (dirs_push [] h.so_far.steps step);
      line_is = omega (arith, p.next, h.line_is, length-append h.front p.own);
    }

pub loaded_on : (s : Watched) (lines : List (List ℕ)) (old new : Place) (before after : Watched) → IsLoadedTo s lines old before → AdvancesText s.rows.links old new before after → IsLoadedTo s lines new after
loaded_on s lines old new before after h a = ⊎_elim (after_pass s lines old new before after h) (after_step s lines old new before after h) a

pub loaded_whole : (s : Watched) (lines : List (List ℕ)) (at : Place) (now : Watched) → IsLoadedTo s lines at now → at.rest ≡ [] → IsLoaded s lines at.loaded now
loaded_whole s lines at now h none =
    subst (λ (l : List (List ℕ)). IsLoaded s l at.loaded now) (sym (h.whole ∙ ap (λ (l : List (List ℕ)). h.front ++ l) none ∙ append-nil h.front)) h.so_far

-- the text's database was a copy with the same rows and watches
pub loaded_from : (rows copied after : Rows) (slots noted fresh : List (Option Watch)) (own : List (List ℕ)) (loaded : Loaded) → copied ≡ rows → noted ≡ slots
    → IsLoaded (watched_as copied noted) own loaded (watched_as after fresh) → IsLoaded (watched_as rows slots) own loaded (watched_as after fresh)
loaded_from rows copied after slots noted fresh own loaded same_rows same_slots h =
    subst (λ (l : List (Option Watch)). IsLoaded (watched_as rows l) own loaded (watched_as after fresh)) same_slots
    (subst (λ (r : Rows). IsLoaded (watched_as r noted) own loaded (watched_as after fresh)) same_rows h)

pub fault_found : (s : Watched) (lines : List (List ℕ)) (at : Place) (now : Watched) (why : LoadRefusal) → IsLoadedTo s lines at now → IsTextFaultAt s.rows.links at now.rows why → IsTextFault s.rows lines why
fault_found s lines at now (BadLine n) h f =
    let b = f.1 in (
      record {
        front = h.front;
        opened = b.opened;
        rest = b.rest;
        whole = h.whole ∙ ap (λ (l : List (List ℕ)). h.front ++ l) b.whole;
        steps = h.so_far.steps;
        reads = h.so_far.reads;
        now = now.rows;
        ran = h.so_far.ran;
      },
      omega (arith, f.2, h.line_is, b.place),
      subst (λ (d : List (List ℕ)). LeavesGrammar s.rows.links d b.opened b.rest) h.dir_is b.leaves,
    )
fault_found s lines at now (KeyRefused n why) h f =
    let r = f.0 in (
      record {
        front = h.front;
        opened = r.opened;
        rest = r.left;
        whole = h.whole ∙ ap (λ (l : List (List ℕ)). h.front ++ l) r.whole;
        steps = h.so_far.steps;
        reads = h.so_far.reads;
        now = now.rows;
        ran = h.so_far.ran;
      },
      omega (arith, f.1, h.line_is),
      subst (λ (d : List (List ℕ)). IsRefused s.rows.links now.rows d r.opened why) h.dir_is r.refused,
    )
fault_found s lines at now NoMemory h f = (
  record {
    front = h.front;
    opened = f.opened;
    rest = f.rest;
    whole = h.whole ∙ ap (λ (l : List (List ℕ)). h.front ++ l) f.whole;
    steps = h.so_far.steps;
    reads = h.so_far.reads;
    now = now.rows;
    ran = h.so_far.ran;
  },
  subst (λ (d : List (List ℕ)). BeginsStep s.rows.links d f.opened) h.dir_is f.begins,
)

-- what the next lines do

broken_bad : (links : Bool) (bytes : List ℕ) (line : ℕ) (dir : List (List ℕ)) (loaded : Loaded) (now : Rows) (ls : List (List ℕ)) (place : ℕ) → lines bytes ≡ ls → IsBadAt links dir ls place
    → IsTextFaultAt links (place_at bytes line dir loaded) now (BadLine (line + place))
broken_bad links bytes line dir loaded now ls place e b = (place, subst (λ (l : List (List ℕ)). IsBadAt links dir l place) (sym e) b, refl)

begun_same : (links : Bool) (dir own ls : List (List ℕ)) → own ≡ ls → IsBegunAt links dir ls → IsBegunAt links dir own
begun_same links dir own ls e b = subst (IsBegunAt links dir) (sym e) b

-- memory was wanting at a step
pub wanting_at : (links : Bool) (bytes : List ℕ) (line : ℕ) (dir : List (List ℕ)) (loaded : Loaded) (now : Rows) (ls rest : List (List ℕ)) (act : Act) (count : ℕ) → lines bytes ≡ ls → IsBlock links dir ls act rest count
    → IsTextFaultAt links (place_at bytes line dir loaded) now NoMemory
wanting_at links bytes line dir loaded now ls rest act count e b = begun_same links dir (lines bytes) ls e (block_begun links dir ls act rest count b)

pub broken_fault : (links : Bool) (bytes : List ℕ) (line : ℕ) (dir : List (List ℕ)) (loaded : Loaded) (now : Rows) (ls : List (List ℕ)) (fault : BlockFault) → lines bytes ≡ ls → IsBlockFault links dir ls fault
    → IsTextFaultAt links (place_at bytes line dir loaded) now (broken_at line fault)
broken_fault links bytes line dir loaded now ls (Bad place) e b = broken_bad links bytes line dir loaded now ls place e b
broken_fault links bytes line dir loaded now ls (Refused why) e b = (record { opened = b.opened; left = b.rest; whole = e ∙ b.whole; refused = b.refused now }, refl)
broken_fault links bytes line dir loaded now ls no_memory e b = begun_same links dir (lines bytes) ls e b

first_refused : (links : Bool) (bytes : List ℕ) (line : ℕ) (dir : List (List ℕ)) (loaded : Loaded) (now : Rows) (ls rest : List (List ℕ)) (act : Act) (count : ℕ) (why : OdbRefusal) → lines bytes ≡ ls
    → IsBlock links dir ls act rest count → rows_fault now act ≡ Some why → RefusesFirst links (place_at bytes line dir loaded) now why
first_refused links bytes line dir loaded now ls rest act count why e b f = record {
  opened = b.own;
  left = rest;
  whole = e ∙ b.whole;
  refused = inl (act, b.spells, ap (λ (o : Option OdbRefusal). option_or o (rows_fault now act)) b.within ∙ f);
}

pub refused_fault : (links : Bool) (bytes : List ℕ) (line : ℕ) (dir : List (List ℕ)) (loaded : Loaded) (now : Rows) (ls rest : List (List ℕ)) (act : Act) (count : ℕ) (why : OdbRefusal) → lines bytes ≡ ls
    → IsBlock links dir ls act rest count → (why ≢ none_left → rows_fault now act ≡ Some why) → IsTextFaultAt links (place_at bytes line dir loaded) now (refused_at line why)
refused_fault links bytes line dir loaded now ls rest act count NoKey e b h = (first_refused links bytes line dir loaded now ls rest act count NoKey e b (h (λ (k : NoKey ≡ none_left). absurd (cc))), refl)
refused_fault links bytes line dir loaded now ls rest act count Exists e b h = (first_refused links bytes line dir loaded now ls rest act count Exists e b (h (λ (k : Exists ≡ none_left). absurd (cc))), refl)
refused_fault links bytes line dir loaded now ls rest act count NotDir e b h = (first_refused links bytes line dir loaded now ls rest act count NotDir e b (h (λ (k : NotDir ≡ none_left). absurd (cc))), refl)
refused_fault links bytes line dir loaded now ls rest act count NotValue e b h = (first_refused links bytes line dir loaded now ls rest act count NotValue e b (h (λ (k : NotValue ≡ none_left). absurd (cc))), refl)
refused_fault links bytes line dir loaded now ls rest act count (TypeMismatch have) e b h = (first_refused links bytes line dir loaded now ls rest act count (TypeMismatch have) e b (h (λ (k : (TypeMismatch have) ≡ none_left). absurd (cc))), refl)
refused_fault links bytes line dir loaded now ls rest act count (BadIndex len) e b h = (first_refused links bytes line dir loaded now ls rest act count (BadIndex len) e b (h (λ (k : (BadIndex len) ≡ none_left). absurd (cc))), refl)
refused_fault links bytes line dir loaded now ls rest act count (Limit what) e b h = (first_refused links bytes line dir loaded now ls rest act count (Limit what) e b (h (λ (k : (Limit what) ≡ none_left). absurd (cc))), refl)
refused_fault links bytes line dir loaded now ls rest act count (NotKept kind) e b h = (first_refused links bytes line dir loaded now ls rest act count (NotKept kind) e b (h (λ (k : (NotKept kind) ≡ none_left). absurd (cc))), refl)
refused_fault links bytes line dir loaded now ls rest act count (BadLink steps) e b h = (first_refused links bytes line dir loaded now ls rest act count (BadLink steps) e b (h (λ (k : (BadLink steps) ≡ none_left). absurd (cc))), refl)
refused_fault links bytes line dir loaded now ls rest act count none_left e b h = wanting_at links bytes line dir loaded now ls rest act count e b

pub refused_at-is : (line : ℕ) (why : OdbRefusal) → why ≢ none_left → refused_at line why ≡ KeyRefused line why
refused_at-is line NoKey h = refl
refused_at-is line Exists h = refl
refused_at-is line NotDir h = refl
refused_at-is line NotValue h = refl
refused_at-is line (TypeMismatch have) h = refl
refused_at-is line (BadIndex len) h = refl
refused_at-is line (Limit what) h = refl
refused_at-is line (NotKept kind) h = refl
refused_at-is line (BadLink steps) h = refl
refused_at-is line none_left h = absurd (h refl)

own_some : (links : Bool) (dir own : List (List ℕ)) (act : Act) → SpellsAct links dir own act → 1 ≤ length own
own_some links dir [] (Make p) h = (let e : [] ≡ h.0 ∷ [] = h.1 in absurd (cc))
own_some links dir [] (Write p v) h = elim h.1 [ inl k ↦ absurd k.2 | inr l ↦ (let e : [] ≡ l.0 ∷ [] = l.4 in absurd (cc)) ]
own_some links dir [] (Skip items) h = absurd h
own_some links dir (l ∷ ls) act h = omega arith

one_key : (act : Act) → written act + skipped act ≤ 1
one_key (Make p) = omega arith
one_key (Write p v) = omega arith
one_key (Skip items) = omega arith

pub done_step : (links : Bool) (bytes left : List ℕ) (line next : ℕ) (dir new_dir : List (List ℕ)) (loaded counts : Loaded) (before after : Rows) (slots fresh : List (Option Watch)) (ls : List (List ℕ)) (act : Act) (count : ℕ)
    → lines bytes ≡ ls → IsBlock links dir ls act (lines left) count → rows_fault before act ≡ None → after ≡ after_act before act → fresh ≡ all_noted (changes_of_act before act) slots → next ≡ line + count → new_dir ≡ dir_after dir act → counts ≡ counts_with loaded act
    → AdvancesText links (place_at bytes line dir loaded) (place_at left next new_dir counts) (watched_as before slots) (watched_as after fresh)
done_step links bytes left line next dir new_dir loaded counts before after slots fresh ls act count e b f r w n d k = inr (record {
  own = b.own;
  act = act;
  whole = e ∙ b.whole;
  spells = b.spells;
  fine = ap (λ (o : Option OdbRefusal). option_or o (rows_fault before act)) b.within ∙ f;
  next = n ∙ ap (λ (m : ℕ). line + m) b.counted;
  new_dir = d;
  one_more = k;
  new_state = ap (λ (x : Rows). watched_as x fresh) r ∙ ap (λ (l : List (Option Watch)). watched_as (after_act before act) l) w;
})

pub room_left : (links : Bool) (line next left before : ℕ) (loaded counts : Loaded) (dir ls rest : List (List ℕ)) (act : Act) (count : ℕ) → IsRoomy line before loaded → IsBlock links dir ls act rest count
    → left + count ≤ before → next ≡ line + count → counts ≡ counts_with loaded act → IsRoomy next left counts
room_left links line next left before loaded counts dir ls rest act count room b shorter n k =
    let keys : counts.keys ≡ loaded.keys + written act = ap (λ (l : Loaded). l.keys) k in
    let skips : counts.skipped ≡ loaded.skipped + skipped act = ap (λ (l : Loaded). l.skipped) k in
    record {
      lines_fit = omega (arith, room.lines_fit, shorter, n);
      counts_fit = omega (arith, room.counts_fit, n, keys, skips, one_key act, own_some links dir b.own act b.spells, b.counted);
    }

pub shorter_left : (links : Bool) (left before count : ℕ) (dir ls rest : List (List ℕ)) (act : Act) → IsBlock links dir ls act rest count → left + count ≤ before → left < before
shorter_left links left before count dir ls rest act b shorter = omega (arith, shorter, own_some links dir b.own act b.spells, b.counted)

-- the numbers of lines at fault

pub same_length : (type : Tid) (index : ℕ) (own : List (List ℕ)) (xs : List SizedItem) → AreItemLines type index own xs → length own ≡ length xs
same_length type index [] [] h = refl
same_length type index [] (x ∷ xs) h = absurd h
same_length type index (l ∷ ls) [] h = absurd h
same_length type index (l ∷ ls) (x ∷ xs) h = ap suc (same_length type (index + 1) ls xs h.1)

near_begun : (dir opened : List (List ℕ)) (type : Tid) (xs : List SizedItem) (n : ℕ) → IsBegunArray dir opened type xs n → length xs < n → length opened ≤ items_limit
near_begun dir opened type xs n b few = omega (arith, ap (length {A = List ℕ}) b.spelled, same_length type 0 b.more xs b.items, few, b.many)

near_skipped : (links : Bool) (dir opened : List (List ℕ)) (n : ℕ) → IsBegunSkipped links dir opened n → length opened ≤ items_limit
near_skipped links dir opened n b = omega (arith, ap (length {A = List ℕ}) b.spelled, b.few, b.many)

near_opened : (links : Bool) (dir opened rest : List (List ℕ)) → LeavesGrammar links dir opened rest → length opened ≤ items_limit
near_opened links dir opened rest h =
    elim h [
      | inl a ↦ omega (arith, ap (length {A = List ℕ}) a.2)
      | inr more ↦ elim more [ inl b ↦ near_begun dir opened b.0 b.1 b.2 b.3 b.4 | inr s ↦ near_skipped links dir opened s.0 s.1 ]
    ]

pub near_fault : (links : Bool) (line left : ℕ) (loaded : Loaded) (dir ls : List (List ℕ)) (fault : BlockFault) → IsRoomy line left loaded → IsBlockFault links dir ls fault → IsNear line fault
near_fault links line left loaded dir ls (Bad place) room b = omega (arith, room.lines_fit, b.place, near_opened links dir b.opened b.rest b.leaves)
near_fault links line left loaded dir ls (Refused why) room b = tt
near_fault links line left loaded dir ls no_memory room b = tt
