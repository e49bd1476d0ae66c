use Rattle.std.proofs.Common.{◌≡◌, ℕ, arith, refl, sym, subst, inl, inr, true, false}
use Rattle.std.specs.Prelude.{◌<◌, ◌⊎◌, suc, nat_lt, if◌then◌else◌, Bool}
use Rattle.daq_types.specs.declared.runs.ChannelEnd.{ChannelEnd}
use Rattle.daq_types.specs.declared.runs.ChannelState.{ChannelState}
use Rattle.daq_types.specs.declared.runs.ChannelState.TheVariants.{Idle, Writing, Broken, Ended, NoEnd, NoMark}
use Rattle.std.proofs.lemmas.Bool.Decides.{leb_tells}
use Rattle.member_model.specs.LoggerKept.{AreFramedSo}
use Rattle.session_runs.specs.FileRows.{state_of_file}
use Rattle.session_runs.proofs.laws.channels_end.Goals as goal

-- whichever of two equal states it is
chosen : (b : Bool) (state : ChannelState) → state ≡ Ended → (if b then Ended else state) ≡ Ended
chosen true state is = refl
chosen false state is = is

-- where not all files are framed the last one is not, and what became of it is what became of the channel
last_tells : (told : ChannelEnd) → told.framed < told.files → ((number : ℕ) → number < told.files → state_of_file told number ≡ Ended) → told.state ≡ Ended
last_tells told fewer all = elim (leb_tells (suc told.framed) told.framed) as (λ w. told.state ≡ Ended) [
  | inl less ↦ absurd (let below = less.1 in omega (arith, below))
  | inr not ↦ subst (λ (b : Bool). (if b then Ended else told.state) ≡ Ended) not.0 (all told.framed fewer)
]

fewer_so : (state : ChannelState) (files framed : ℕ) → AreFramedSo state files framed → (state ≡ Ended) ⊎ (framed < files)
fewer_so Ended files framed so = inl refl
fewer_so Broken files framed so = inr so.0
fewer_so Idle files framed so = inr (omega (arith, so))
fewer_so Writing files framed so = inr (omega (arith, so))
fewer_so NoEnd files framed so = inr (omega (arith, so))
fewer_so NoMark files framed so = inr (omega (arith, so))

pub returns : goal.returns
returns c = λ files so. (
  λ is number below. chosen (nat_lt number files.told.framed) files.told.state is,
  λ all. elim (fewer_so files.told.state files.told.files files.told.framed so) as (λ w. files.told.state ≡ Ended) [
    | inl is ↦ is
    | inr fewer ↦ last_tells files.told fewer all
  ],
)
