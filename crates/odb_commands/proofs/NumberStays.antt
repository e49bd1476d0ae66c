-- The run number is there after any legal calls on a watched database that spare it.
use Rattle.std.proofs.Common.{◌≡◌, ℕ, Bool, true, false, List, [], ◌∷◌, Option, Some, None, Result, Ok, Err, inl, refl, sym, ap, ◌∙◌, subst}
use Rattle.std.specs.Option.{option_or}
use Rattle.std.specs.List.{AllByRecursion}
use Rattle.std.specs.Str.Lines.{lines}
use Rattle.odb_value.specs.Values.{HeldValue}
use Rattle.odb_value.specs.LinkValues.{IsValueOrLink, is_link_type}
use Rattle.odb_tree.specs.declared.refusals.OdbRefusal.{OdbRefusal}
use Rattle.odb_tree.specs.declared.rows.NewKey.TheVariants.{Dir}
use Rattle.odb_tree.specs.declared.entry.DatabaseEntry.{DatabaseEntry}
use Rattle.odb_tree.specs.declared.entry.DatabaseEntry.TheVariants.{Create}
use Rattle.odb_tree.specs.Rows.{Rows, row_at}
use Rattle.odb_tree.specs.Links.{resolved, through}
use Rattle.odb_tree.specs.Calls.{GivesTaking, reply_or, create_fault, create_reply, number_at, put_fault, put_reply, after_put}
use Rattle.odb_tree.specs.Making.{new_number}
use Rattle.odb_tree.specs.Databases.{IsHeld}
use Rattle.odb_tree.specs.Noting.{Watched}
use Rattle.odb_tree.specs.Histories.{IsLegalRows, rows_replay}
use Rattle.odb_text.specs.declared.acts.Act.{Act}
use Rattle.odb_text.specs.declared.acts.Act.TheVariants.{Make, Write, Skip}
use Rattle.odb_text.specs.TextSteps.{TextStep, fault_through, dir_refusal, after_make_by, own_limit, rows_fault, act_fault, after_act, or_refused, run_steps, IsSoundAct}
use Rattle.odb_text.specs.Grammar.{SpellsSteps}
use Rattle.odb_watch.specs.declared.entry.WatchEntry.{WatchEntry}
use Rattle.odb_watch.specs.declared.entry.WatchEntry.TheVariants.{Call, Watch, Notes, Unwatch, Save, Load}
use Rattle.odb_watch.specs.Steps.{StepsDatabase, LeadsDatabase}
use Rattle.odb_runinfo.specs.RunNumberKept.{HasRunNumber, AllSpareRuninfo}
use Rattle.odb_commands.specs.WatchSpares.{SparesWatched, AllSpareWatched}

-- What holds of calls on the rows alone, and of texts.
pub record NumberLaws : Type 0 where
  pub calls : (s : Rows) (h : List (ℕ × DatabaseEntry)) → IsLegalRows s h → AllSpareRuninfo h → HasRunNumber s.rows → HasRunNumber (rows_replay s h).rows
  pub put : (s : Rows) (p : List (List ℕ)) (v : HeldValue) (reply : Result ℕ OdbRefusal) → IsValueOrLink v → GivesTaking (is_link_type v.tid) reply (put_reply s p v) → HasRunNumber s.rows → HasRunNumber (after_put s p v reply).rows
  pub sound : (s after : Rows) (text : List (List ℕ)) (steps : List TextStep) → SpellsSteps s.links 1 [] text steps → run_steps steps s ≡ Ok after
      → AllByRecursion (λ (step : TextStep). IsSoundAct s.links step.act) steps
  pub links : (s : Rows) (act : Act) → (after_act s act).links ≡ s.links

-- A step of a text.

-- a directory is made by a `create`, where it is
made_by : (r : Result (List (List ℕ)) OdbRefusal) (s : Rows) → fault_through r (λ q. create_fault s q Dir) ≡ None → (number : ℕ) × (through r (λ q. create_reply s q Dir) ≡ Ok number)
made_by (Ok q) s none = (new_number s q, ap (λ (o : Option OdbRefusal). reply_or o (new_number s q)) none)
made_by (Err why) s none = absurd (cc)

make_keeps : NumberLaws → (s : Rows) (p : List (List ℕ)) (o : Option OdbRefusal) → dir_refusal s p ≡ o → IsSoundAct s.links (Make p) → HasRunNumber s.rows → HasRunNumber (after_make_by s p o).rows
make_keeps laws s p None is sound has =
    let made = made_by (resolved s p false) s is in
    laws.calls s ((0, Create p Dir (Ok made.0)) ∷ []) (record { may = λ _. refl; sound = (sound, tt); reply = made.1 }, tt) (tt, tt) has
make_keeps laws s p (Some why) is sound has = has

either_held : (links : Bool) (v : HeldValue) → IsHeld links v → IsValueOrLink v
either_held true v h = h
either_held false v h = inl h

none_right : {X : Type 0} (a b : Option X) → option_or a b ≡ None → b ≡ None
none_right None b h = h
none_right (Some x) b h = absurd (cc)

act_keeps : NumberLaws → (s : Rows) (act : Act) → act_fault s act ≡ None → IsSoundAct s.links act → HasRunNumber s.rows → HasRunNumber (after_act s act).rows
act_keeps laws s (Make p) none sound has = make_keeps laws s p (dir_refusal s p) refl sound has
act_keeps laws s (Write p v) none sound has =
    let number : ℕ = number_at s p (row_at s.rows p) in
    let fine : put_fault s p v ≡ None = none_right (own_limit (Write p v)) (put_fault s p v) none in
    laws.put s p v (Ok number) (either_held s.links v sound.1) (ap (λ (o : Option OdbRefusal). reply_or o number) fine) has
act_keeps laws s (Skip items) none sound has = has

steps_keep : NumberLaws → (links : Bool) (s after : Rows) (steps : List TextStep) → links ≡ s.links → AllByRecursion (λ (step : TextStep). IsSoundAct links step.act) steps → run_steps steps s ≡ Ok after
    → HasRunNumber s.rows → HasRunNumber after.rows
steps_keep laws links s after [] same sound ran has = (let one : s ≡ after = cc in subst (λ (t : Rows). HasRunNumber t.rows) one has)
steps_keep laws links s after (step ∷ steps) same sound ran has =
    by (act_fault s step.act) refl ran (λ none rest.
    steps_keep laws links (after_act s step.act) after steps (same ∙ sym (laws.links s step.act)) sound.1 rest
    (act_keeps laws s step.act none (subst (λ (kept : Bool). IsSoundAct kept step.act) same sound.0) has))
  where
    by : (o : Option OdbRefusal) → act_fault s step.act ≡ o → or_refused step.line o (run_steps steps (after_act s step.act)) ≡ Ok after
        → (act_fault s step.act ≡ None → run_steps steps (after_act s step.act) ≡ Ok after → HasRunNumber after.rows) → HasRunNumber after.rows
    by None none rest go = go none rest
    by (Some why) is rest go = absurd (cc)

-- The calls.

step_stays : NumberLaws → (before : Watched) (caller : ℕ) (entry : WatchEntry) (after : Watched) → StepsDatabase before caller entry after → SparesWatched entry → HasRunNumber before.rows.rows → HasRunNumber after.rows.rows
step_stays laws before caller (Call entry) after step spares has =
    subst (λ (w : Watched). HasRunNumber w.rows.rows) (sym step.step.1)
    (laws.calls before.rows ((caller, entry) ∷ []) (record { may = step.may; sound = step.sound; reply = step.step.0 }, tt) (spares, tt) has)
step_stays laws before caller (Watch row reply) after step spares has = subst (λ (w : Watched). HasRunNumber w.rows.rows) (sym step.step.1) has
step_stays laws before caller (Notes w reply) after step spares has = subst (λ (w : Watched). HasRunNumber w.rows.rows) (sym step.step.1) has
step_stays laws before caller (Unwatch w reply) after step spares has = subst (λ (w : Watched). HasRunNumber w.rows.rows) (sym step.step.1) has
step_stays laws before caller (Save reply) after step spares has = subst (λ (w : Watched). HasRunNumber w.rows.rows) (sym step.step.1) has
step_stays laws before caller (Load text (Ok loaded)) after step spares has =
    steps_keep laws before.rows.links before.rows after.rows step.step.steps refl
    (laws.sound before.rows after.rows (lines text) step.step.steps step.step.reads step.step.ran) step.step.ran has
step_stays laws before caller (Load text (Err why)) after step spares has = subst (λ (w : Watched). HasRunNumber w.rows.rows) (sym step.step.1) has

pub number_stays : NumberLaws → (first : Watched) (h : List (ℕ × WatchEntry)) (last : Watched) → LeadsDatabase first h last → AllSpareWatched h → HasRunNumber first.rows.rows → HasRunNumber last.rows.rows
number_stays laws first [] last leads spares has = subst (λ (w : Watched). HasRunNumber w.rows.rows) leads has
number_stays laws first (e ∷ es) last leads spares has =
    number_stays laws leads.0 es last leads.2 spares.1 (step_stays laws first e.0 e.1 leads.0 leads.1 spares.0 has)
