-- Steps along lists.
use Rattle.std.specs.Prelude.{◌≡◌, ◌≢◌, ◌==◌, if◌then◌else◌, Bool, true, false, ℕ, zero, suc, ◌+◌, ◌<◌, List, [], ◌∷◌, ◌++◌, length, take, drop, get_or, slice_get, slice_set, Option, Some, None, IfNone, refl}
use Rattle.std.specs.List.{AllByRecursion}
use Rattle.std.specs.Option.{option_or, option_to_list}
use Rattle.std.proofs.Common.{ap, sym, subst, ◌∙◌, arith, append_assoc, append-nil}
use Rattle.std.proofs.Math.Seq.{drop-cons}
use Rattle.std.proofs.lemmas.Bool.{ne_eqb}
use Rattle.std.proofs.lemmas.List.{take_more, set-get_or}
use Rattle.std.proofs.lemmas.Option.{get_or_from_slice_get, slice_get_within}
use Rattle.daq_types.specs.declared.runs.ChannelEnd.{ChannelEnd}
use Rattle.event_report.specs.Reports.{Totals, report_of}
use Rattle.event_report.specs.Reports.{IsBlank}
use Rattle.member_model.specs.RunEngines.{ClientTally, Tally}
use Rattle.transitions.specs.declared.answers.Tally.TheVariants.{Plain, Front, Channels, Report}
use Rattle.mid_logger.specs.declared.channel_spec.ChannelSpec.{ChannelSpec}
use Rattle.session_runs.specs.declared.records.ChannelFiles.{ChannelFiles}
use Rattle.session_runs.specs.declared.records.ReportTally.{ReportTally}
use Rattle.session_runs.specs.declared.channels.RunChannel.{RunChannel}
use Rattle.session_runs.specs.KeptRuns.{channel_by, channel_numbered}
use Rattle.session_runs.specs.RunEntries.{blank_reports}
use Rattle.session_runs.specs.ToldTallies.{front_by, front_told, ends_by, ends_told, channel_told, files_told, report_from, report_by, report_told, reports_told}

-- the rest of a list from a place
rest_at : {X : Type 0} (xs : List X) (i : ℕ) (x : X) → i < length xs → x ≡ get_or xs i x → drop i xs ≡ x ∷ drop (i + 1) xs
rest_at {X} xs i x within is =
    let next : suc i ≡ i + 1 = omega arith in
    drop-cons xs i x within ∙ (ap (λ (y : X). y ∷ drop (suc i) xs) (sym is) ∙ ap (λ (n : ℕ). x ∷ drop n xs) next)

pub numbered_next : (number : ℕ) (specs : List ChannelSpec) (i : ℕ) (spec : ChannelSpec) → i < length specs → spec ≡ get_or specs i spec
    → channel_numbered number (drop i specs) ≡ option_or (channel_by number spec) (channel_numbered number (drop (i + 1) specs))
numbered_next number specs i spec within is = ap (channel_numbered number) (rest_at specs i spec within is)

pub front_next : (client : ℕ) (tallies : List ClientTally) (i : ℕ) (told : ClientTally) → i < length tallies → told ≡ get_or tallies i told
    → front_told client (drop i tallies) ≡ option_or (front_by client told) (front_told client (drop (i + 1) tallies))
front_next client tallies i told within is = ap (front_told client) (rest_at tallies i told within is)

pub ends_next : (logger : ℕ) (tallies : List ClientTally) (i : ℕ) (told : ClientTally) → i < length tallies → told ≡ get_or tallies i told
    → ends_told logger (drop i tallies) ≡ option_or (ends_by logger told) (ends_told logger (drop (i + 1) tallies))
ends_next logger tallies i told within is = ap (ends_told logger) (rest_at tallies i told within is)

files_joined : (ends : List ChannelEnd) (channels : List RunChannel) (channel : RunChannel)
    → files_told ends (channels ++ channel ∷ []) ≡ files_told ends channels ++ option_to_list (channel_told ends channel)
files_joined ends [] channel = append-nil (option_to_list (channel_told ends channel))
files_joined ends (c ∷ channels) channel =
    ap (λ (l : List ChannelFiles). option_to_list (channel_told ends c) ++ l) (files_joined ends channels channel)
    ∙ sym (append_assoc (option_to_list (channel_told ends c)) (files_told ends channels) (option_to_list (channel_told ends channel)))

pub files_next : (ends : List ChannelEnd) (channels : List RunChannel) (i : ℕ) (channel : RunChannel) → i < length channels → channel ≡ get_or channels i channel
    → files_told ends (take (i + 1) channels) ≡ files_told ends (take i channels) ++ option_to_list (channel_told ends channel)
files_next ends channels i channel within is =
    ap (files_told ends) (take_more channels i channel within ∙ ap (λ (c : RunChannel). take i channels ++ c ∷ []) (sym is))
    ∙ files_joined ends (take i channels) channel

-- Reports of no events.

pub all_blank : (n : ℕ) → AllByRecursion IsBlank (blank_reports n)
all_blank zero = tt
all_blank (suc n) = (refl, all_blank n)

blanks_more : (n : ℕ) → blank_reports n ++ report_of [] ∷ [] ≡ blank_reports (suc n)
blanks_more zero = refl
blanks_more (suc n) = ap (λ (l : List Totals). report_of [] ∷ l) (blanks_more n)

pub blanks_next : (n : ℕ) → blank_reports n ++ report_of [] ∷ [] ≡ blank_reports (n + 1)
blanks_next n = let next : suc n ≡ n + 1 = omega arith in blanks_more n ∙ ap blank_reports next

-- Reports that are taken out of the tallies.

-- another client told no report there
by_other : (client : ℕ) (told : ClientTally) → told.client ≢ client → report_by client told ≡ None
by_other client told differs = ap (λ (b : Bool). if b then report_from client told.tally else None) (ne_eqb told.client client differs)

pub others_same : (client other : ℕ) (told later : ClientTally) → told.client ≡ client → later.client ≡ client → other ≢ client → report_by other later ≡ report_by other told
others_same client other told later is same differs =
    by_other other later (λ e. differs (sym e ∙ same)) ∙ sym (by_other other told (λ e. differs (sym e ∙ is)))

-- who told no report
no_report_in : (client : ℕ) (tally : Tally) → ((report : Totals) → tally ≡ Report report → ⊥) → report_from client tally ≡ None
no_report_in client Plain none = refl
no_report_in client (Front sent ended) none = refl
no_report_in client (Channels ends) none = refl
no_report_in client (Report report) none = absurd (none report refl)

chosen_none : (b : Bool) (o : Option ReportTally) → o ≡ None → (if b then o else None) ≡ None
chosen_none true o none = none
chosen_none false o none = refl

pub no_report_by : (client : ℕ) (told : ClientTally) → ((report : Totals) → told.tally ≡ Report report → ⊥) → report_by client told ≡ None
no_report_by client told none = chosen_none (told.client == client) (report_from client told.tally) (no_report_in client told.tally none)

pub report_next : (client : ℕ) (tallies : List ClientTally) (i : ℕ) (told : ClientTally) → slice_get tallies i ≡ Some told
    → report_told client (drop i tallies) ≡ option_or (report_by client told) (report_told client (drop (i + 1) tallies))
report_next client tallies i told at =
    ap (report_told client) (rest_at tallies i told (slice_get_within tallies i told at) (sym (get_or_from_slice_get tallies i told told at)))

pub no_report : (o : Option ReportTally) → ((report : ReportTally) → o ≡ Some report → ⊥) → o ≡ None
no_report None none = refl
no_report (Some report) none = absurd (none report refl)

-- the search found the report at this place
pub report_found : (client : ℕ) (first now : List ClientTally) (i : ℕ) (told : ClientTally) (result : Option ReportTally) (report : ReportTally) → now ≡ first → report_told client first ≡ report_told client (drop i first)
    → slice_get now i ≡ Some told → result ≡ report_by client told → result ≡ Some report → Some report ≡ report_told client first
report_found client first now i told result report same so_far at is some =
    let there : slice_get first i ≡ Some told = subst (λ (l : List ClientTally). slice_get l i ≡ Some told) same at in
    let here : report_by client told ≡ Some report = sym is ∙ some in
    sym (so_far ∙ (report_next client first i told there ∙ ap (λ (o : Option ReportTally). option_or o (report_told client (drop (i + 1) first))) here))

-- or goes on behind it
pub report_further : (client : ℕ) (first now : List ClientTally) (i : ℕ) (told : ClientTally) (result : Option ReportTally) → now ≡ first → report_told client first ≡ report_told client (drop i first)
    → slice_get now i ≡ Some told → result ≡ report_by client told → result ≡ None → report_told client first ≡ report_told client (drop (i + 1) first)
report_further client first now i told result same so_far at is none =
    let there : slice_get first i ≡ Some told = subst (λ (l : List ClientTally). slice_get l i ≡ Some told) same at in
    let here : report_by client told ≡ None = sym is ∙ none in
    so_far ∙ (report_next client first i told there ∙ ap (λ (o : Option ReportTally). option_or o (report_told client (drop (i + 1) first))) here)

-- where one entry tells the same of a client, all do
pub report_left : (client : ℕ) (tallies : List ClientTally) (i : ℕ) (told later : ClientTally) → slice_get tallies i ≡ Some told → report_by client later ≡ report_by client told
    → report_told client (slice_set tallies i later) ≡ report_told client tallies
report_left client [] i told later at same = absurd (cc (at))
report_left client (t ∷ tallies) zero told later at same =
    let is : t ≡ told = cc (at) in
    ap (λ (o : Option ReportTally). option_or o (report_told client tallies)) (same ∙ ap (report_by client) (sym is))
report_left client (t ∷ tallies) (suc i) told later at same =
    ap (λ (o : Option ReportTally). option_or (report_by client t) o) (report_left client tallies i told later at same)

-- where nothing was taken out, the list is the same
pub none_left : (result : Option ReportTally) (tallies : List ClientTally) (i : ℕ) (told later : ClientTally) → slice_get tallies i ≡ Some told → IfNone result (later ≡ told)
    → IfNone result (slice_set tallies i later ≡ tallies)
none_left (Some report) tallies i told later at same = tt
none_left None tallies i told later at same =
    ap (slice_set tallies i) (same ∙ sym (get_or_from_slice_get tallies i told told at)) ∙ set-get_or tallies i told

pub reports_next : (first n : ℕ) (tallies : List ClientTally) → reports_told first (n + 1) tallies ≡ reports_told first n tallies ++ option_to_list (report_told (first + n) tallies)
reports_next first n tallies = let next : n + 1 ≡ suc n = omega arith in ap (λ (m : ℕ). reports_told first m tallies) next
