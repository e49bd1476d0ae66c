-- The first fault, where a run is called off.
use Rattle.std.specs.Prelude.{◌≡◌, ℕ, IsSome, List, Option, Some, None, Result, Ok, Err, OnOk, OnErr, refl}
use Rattle.std.proofs.Common.{ap, sym, subst, ◌∙◌, inl, inr}
use Rattle.daq_io.specs.Counts.{NamesFirst, first_of}
use Rattle.daq_io.specs.Seen.{Seen}
use Rattle.sub_files.specs.Patterns.{piece_name_by}
use Rattle.sub_files.specs.RecordFiles.{NamesOneOf}
use Rattle.mid_logger.specs.declared.channel_spec.ChannelSpec.{ChannelSpec}
use Rattle.mid_logger.specs.declared.stage.ChannelRun.{ChannelRun}
use Rattle.mid_logger.specs.Channels.{IsLastOpen}
use Rattle.mid_logger.specs.ChannelEnds.{NamesOpen, NamesRun, name_written}

first_stays : (o : Option (List ℕ)) (name other : List ℕ) → first_of (first_of o name) other ≡ first_of o name
first_stays None name other = refl
first_stays (Some before) name other = refl

-- behind the closing of the open file, and the removing of the run's files
pub drop_named : {T E : Type 0} (spec : ChannelSpec) (opened : ChannelRun) (many : ℕ) (written : Option ChannelRun) (name : List ℕ) (old middle new : Option (List ℕ)) (closed removed : Result T E) → NamesFirst name old middle closed
    → OnErr closed (NamesOpen spec written old (first_of old name)) → OnOk removed (new ≡ middle) → OnErr removed (NamesOneOf (piece_name_by spec.pattern opened.run) many middle new) → NamesRun spec (Some opened) written many old new
drop_named spec opened many written name old middle new (Ok u) (Ok v) first named quiet of = inl (quiet ∙ first.done)
drop_named spec opened many written name old middle new (Ok u) (Err why) first named quiet of = inr (inr (subst (λ (o : Option (List ℕ)). NamesOneOf (piece_name_by spec.pattern opened.run) many o new) first.done of))
drop_named spec opened many written name old middle new (Err why) (Ok v) first named quiet of = inr (inl (subst (λ (o : Option (List ℕ)). NamesOpen spec written old o) (sym (quiet ∙ first.failed)) named))
drop_named spec opened many written name old middle new (Err why) (Err other) first named quiet of =
    let same : new ≡ first_of old name = of.2 ∙ (ap (λ (o : Option (List ℕ)). first_of o (piece_name_by spec.pattern opened.run of.0)) first.failed ∙ first_stays old name (piece_name_by spec.pattern opened.run of.0)) in
    inr (inl (subst (λ (o : Option (List ℕ)). NamesOpen spec written old o) (sym same) named))

open_named : (spec : ChannelSpec) (written : Option ChannelRun) (seen : Seen) (old : Option (List ℕ)) → IsLastOpen seen spec written → IsSome written → NamesOpen spec written old (first_of old (name_written seen written))
open_named spec None seen old file some = cc (some)
open_named spec (Some opened) seen old file some = ap (λ (name : List ℕ). first_of old name) file.named

pub closing_named : {T E : Type 0} (spec : ChannelSpec) (written : Option ChannelRun) (seen : Seen) (old : Option (List ℕ)) (closed : Result T E) → IsLastOpen seen spec written → OnErr closed (IsSome written) → OnErr closed (NamesOpen spec written old (first_of old (name_written seen written)))
closing_named spec written seen old (Ok u) file some = tt
closing_named spec written seen old (Err why) file some = open_named spec written seen old file some
