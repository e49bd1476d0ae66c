-- A report counts nothing of an event's mask, serial number and time: it is the same over events as they are read back.
use Rattle.std.proofs.Common.{◌≡◌, ◌∙◌, ℕ, suc, ◌<◌, ◌+◌, ◌^◌, cond, List, [], ◌∷◌, ◌++◌, length, map, All, refl, ap, sym, subst, arith}
use Rattle.std.specs.Prelude.{count_by, is_none}
use Rattle.std.proofs.lemmas.List.{map-append}
use Rattle.std.proofs.lemmas.List.Elements.{All-nil, All-cons, All-head, All-tail}
use Rattle.std.proofs.lemmas.List.Sums.{sum_by-cons}
use Rattle.daq_types.specs.declared.events.Event.{Event}
use Rattle.daq_io.specs.Seen.{Seen}
use Rattle.event_report.specs.EventBanks.{IntegerBank, banks_of, event_banks, integer_banks}
use Rattle.event_report.specs.Tallies.{id_tally, bank_tally}
use Rattle.event_report.specs.Reports.{Totals, report_of}
use Rattle.event_report.specs.Texts.{report_text}
use Rattle.mid_format.specs.ReadLaws.{AreSameRun, IsWholeFile}
use Rattle.midas_tools.specs.Analyses.{analysis_text}
use Rattle.midas_tools.specs.Pieces.{ArePieces, AreRunFilesWith, IsPiece, IsRunFileWith, total_bytes}
use Rattle.midas_tools.specs.Together.{HaveBytes, TellsRun}
use Rattle.midas_tools.specs.Texts.{run_number_line}
use Rattle.midas_tools.proofs.Pieces.{have_one}
use Rattle.midas_tools.proofs.Written.{in_four, as_written, all_same, written_whole}

many_same : (es : List Event) → length (map as_written es) ≡ length es
many_same [] = refl
many_same (e ∷ es) = ap suc (many_same es)

abbrev ids : List Event → List ℕ
ids es = map (λ e. e.id) es

ids_same : (es : List Event) → ids (map as_written es) ≡ ids es
ids_same [] = refl
ids_same (e ∷ es) = ap (λ (rest : List ℕ). e.id ∷ rest) (ids_same es)

banks_same : (es : List Event) → integer_banks (map as_written es) ≡ integer_banks es
banks_same [] = refl
banks_same (e ∷ es) = ap (λ (rest : List IntegerBank). event_banks e ++ rest) (banks_same es)

abbrev bad : List Event → ℕ
bad es = count_by (λ e. is_none (banks_of e.body)) es

abbrev one_bad : Event → ℕ
one_bad e = cond (is_none (banks_of e.body)) 1 0

bad_same : (es : List Event) → bad (map as_written es) ≡ bad es
bad_same [] = refl
bad_same (e ∷ es) = sum_by-cons one_bad (as_written e) (map as_written es) ∙ ap (λ (n : ℕ). one_bad e + n) (bad_same es) ∙ sym (sum_by-cons one_bad e es)

abbrev totals : (bytes events : ℕ) (of_ids : List ℕ) (of_banks : List IntegerBank) (bad : ℕ) → Totals
totals bytes events of_ids of_banks bad = record { bytes = bytes; events = events; ids = id_tally of_ids; banks = bank_tally of_banks; bad = bad }

totals_same : {a a' b b' e e' : ℕ} {c c' : List ℕ} {d d' : List IntegerBank} → a ≡ a' → b ≡ b' → c ≡ c' → d ≡ d' → e ≡ e' → totals a b c d e ≡ totals a' b' c' d' e'
totals_same p q r s t = rw (p, q, r, s, t) refl

report_same : (es : List Event) → report_of (map as_written es) ≡ report_of es
unfolding report_of
report_same es = totals_same (ap (length {A = ℕ}) (all_same es)) (many_same es) (ids_same es) (banks_same es) (bad_same es)

-- The files of one run, as they were written and as they are read

abbrev HasShortId : Event → Type 0
HasShortId e = e.id < 2 ^ 16

short_front : (es fs : List Event) → All HasShortId (es ++ fs) → All HasShortId es
short_front [] fs all = All-nil HasShortId
short_front (e ∷ es) fs all = All-cons HasShortId e es (All-head HasShortId e (es ++ fs) all) (short_front es fs (All-tail HasShortId e (es ++ fs) all))

short_back : (es fs : List Event) → All HasShortId (es ++ fs) → All HasShortId fs
short_back [] fs all = all
short_back (e ∷ es) fs all = short_back es fs (All-tail HasShortId e (es ++ fs) all)

-- the law that bytes are a run file in one way
abbrev pub ReadsOneWay : Type 0
ReadsOneWay = (text : List ℕ) → (run time0 : ℕ) → (dump0 : List ℕ) → (events : List Event) → (time1 : ℕ) → (dump1 : List ℕ)
    → (run' time0' : ℕ) → (dump0' : List ℕ) → (events' : List Event) → (time1' : ℕ) → (dump1' : List ℕ)
    → IsWholeFile text run time0 dump0 events time1 dump1 → IsWholeFile text run' time0' dump0' events' time1' dump1'
    → AreSameRun run run' events events'

module _ (reads : ReadsOneWay) (run other : ℕ) (small : run < 2 ^ 32) where
  one_read : (bytes : List ℕ) (events found : List Event) → All HasShortId events → IsRunFileWith run bytes events → IsPiece other bytes found → AreSameRun run other (map as_written events) found
  one_read bytes events found short w p =
      reads bytes run (in_four w.time0) w.dump0 (map as_written events) (in_four w.time1) w.dump1 other p.time0 p.dump0 found p.time1 p.dump1
      (written_whole bytes run w.time0 w.dump0 events w.time1 w.dump1 w.file small short) p.whole

  -- their events are those that were written
  all_read : (files : List (List ℕ)) (events found : List Event) → All HasShortId events → AreRunFilesWith run files events → ArePieces other files found → found ≡ map as_written events
  all_read [] events found short w p = p ∙ sym (ap (λ (es : List Event). map as_written es) w)
  all_read (bytes ∷ files) events found short w p =
      let both : All HasShortId (w.0 ++ w.1) = subst (λ (es : List Event). All HasShortId es) w.4 short in
      let first : p.0 ≡ map as_written w.0 = sym (one_read bytes w.0 p.0 (short_front w.0 w.1 both) w.2 p.2).events_are in
      let later : p.1 ≡ map as_written w.1 = all_read files w.1 p.1 (short_back w.0 w.1 both) w.3 p.3 in
      p.4 ∙ ap (λ (es : List Event). es ++ p.1) first ∙ ap (λ (es : List Event). map as_written w.0 ++ es) later
      ∙ sym (map-append as_written w.0 w.1) ∙ sym (ap (λ (es : List Event). map as_written es) w.4)

  -- and so is their run
  same_run : (files : List (List ℕ)) (events found : List Event) → 0 < length files → All HasShortId events → AreRunFilesWith run files events → ArePieces other files found → other ≡ run
  same_run [] events found some short w p = absurd (omega (arith, some))
  same_run (bytes ∷ files) events found some short w p =
      let both : All HasShortId (w.0 ++ w.1) = subst (λ (es : List Event). All HasShortId es) w.4 short in
      sym (one_read bytes w.0 p.0 (short_front w.0 w.1 both) w.2 p.2).run_is

  text_same : (files : List (List ℕ)) (events found : List Event) → 0 < length files → All HasShortId events → AreRunFilesWith run files events → ArePieces other files found
      → analysis_text other found (total_bytes files) ≡ analysis_text run events (total_bytes files)
  text_same files events found some short w p =
      ap (λ (n : ℕ). run_number_line n ++ report_text [] (report_of found)) (same_run files events found some short w p)
      ∙ ap (λ (t : Totals). run_number_line run ++ report_text [] t) (ap report_of (all_read files events found short w p) ∙ report_same events)

pub printed_is : ReadsOneWay → (seen : Seen) (names files : List (List ℕ)) (run : ℕ) (events : List Event) (text : List ℕ)
    → HaveBytes seen names files → 0 < length files → AreRunFilesWith run files events → run < 2 ^ 32 → All HasShortId events
    → TellsRun analysis_text seen names text → text ≡ analysis_text run events (total_bytes files)
printed_is reads seen names files run events text have some are small short tells =
    let same : tells.holds.files ≡ files = have_one seen names tells.holds.files files tells.holds.have have in
    let pieces : ArePieces tells.holds.run files tells.holds.events = subst (λ (fs : List (List ℕ)). ArePieces tells.holds.run fs tells.holds.events) same tells.holds.are.pieces in
    tells.text_is ∙ text_same reads run tells.holds.run small files events tells.holds.events some short are pieces
