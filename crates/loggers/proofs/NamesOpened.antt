-- Which names of run files are as they should be while a run is opened.
use Rattle.std.specs.Prelude.{◌≡◌, ◌≢◌, ◌≤◌, ◌<◌, ◌==◌, ◌+◌, ℕ, zero, suc, Bool, true, false, IsTrue, IsSome, List, [], ◌∷◌, slice_set, Option, Some, None, Ok, ◌⊎◌, refl}
use Rattle.std.proofs.Common.{ap, sym, subst, ◌∙◌, arith, inl, inr}
use Rattle.std.proofs.lemmas.Bool.Decides.{eqb_tells}
use Rattle.daq_types.specs.declared.runs.Order.{Order}
use Rattle.daq_io.specs.Seen.{Seen, Stored, Touches}
use Rattle.buffer_core.specs.Slots.{slot_at}
use Rattle.buffer_core.proofs.SlotLaws.{slot_set_other}
use Rattle.mid_logger.specs.declared.channel.Channel.{Channel}
use Rattle.mid_logger.specs.declared.channel_spec.ChannelSpec.{ChannelSpec}
use Rattle.mid_logger.specs.declared.stage.ChannelRun.{ChannelRun}
use Rattle.mid_logger.specs.declared.stage.ChannelStage.TheVariants.{Idle}
use Rattle.sub_files.specs.declared.open_file.OpenFile.{OpenFile}
use Rattle.sub_files.specs.Patterns.{piece_name_by}
use Rattle.mid_logger.specs.Channels.{channel_run, files_by as files_made}
use Rattle.mid_logger.specs.Patterns.{file_name_by}
use Rattle.loggers.specs.Moments.{LoggerMoment, StepsChannel, StepsSlot, AreIdleChannels}
use Rattle.loggers.specs.ChannelSteps.{OpensChannel}
use Rattle.loggers.specs.Turning.{OpensBelow}
use Rattle.loggers.specs.OtherFiles.{specs_in}
use Rattle.loggers.specs.LeftNames.{IsOpenName, NamesLeft, IsGivenBefore}
use Rattle.loggers.proofs.FilesLeft.{spec_at, specs_set, no_run}
use Rattle.loggers.proofs.StoppedThere.{spec_from}
use Rattle.loggers.proofs.SlotLists.{same_or_other, one_changed, put_there}

-- Names.

pub names_tell : (xs ys : List ℕ) → (xs ≡ ys) ⊎ (xs ≢ ys)
names_tell [] [] = inl refl
names_tell [] (y ∷ ys) = inr (λ e. cc (e))
names_tell (x ∷ xs) [] = inr (λ e. cc (e))
names_tell (x ∷ xs) (y ∷ ys) = by_both (eqb_tells x y) (names_tell xs ys)
  where
    by_both : (((x == y) ≡ true) × (x ≡ y)) ⊎ (((x == y) ≡ false) × (x ≢ y)) → (xs ≡ ys) ⊎ (xs ≢ ys) → ((x ∷ xs) ≡ (y ∷ ys)) ⊎ ((x ∷ xs) ≢ (y ∷ ys))
    by_both (inl one) (inl rest) = inl (ap (λ (n : ℕ). n ∷ xs) one.1 ∙ ap (λ (l : List ℕ). y ∷ l) rest)
    by_both (inl one) (inr rest) = inr (λ e. rest (cc (e)))
    by_both (inr one) rest = inr (λ e. one.1 (cc (e)))

-- the name is one of the first of these, so many
pub record IsOneOf (names : ℕ → List ℕ) (many : ℕ) (name : List ℕ) : Type 0 where
  pub place : ℕ
  pub below : place < many
  pub is : name ≡ names place

abbrev pub IsNoneOf : (names : ℕ → List ℕ) → (many : ℕ) → (name : List ℕ) → Type 0
IsNoneOf names many name = (n : ℕ) → n < many → name ≢ names n

pub one_or_none : (names : ℕ → List ℕ) (many : ℕ) (name : List ℕ) → IsOneOf names many name ⊎ IsNoneOf names many name
one_or_none names zero name = inr (λ n below same. omega (arith, below))
one_or_none names (suc many) name = elim (names_tell name (names many)) as (λ w. IsOneOf names (suc many) name ⊎ IsNoneOf names (suc many) name) [
  | inl last ↦ inl (record { place = many; below = omega arith; is = last })
  | inr differs ↦ elim (one_or_none names many name) as (λ w. IsOneOf names (suc many) name ⊎ IsNoneOf names (suc many) name) [
    | inl one ↦ inl (let below = one.below in record { place = one.place; below = omega (arith, below); is = one.is })
    | inr none ↦ inr (λ n below same. elim (same_or_other n many) as (λ w. ⊥) [
      | inl last ↦ differs (same ∙ ap names last)
      | inr other ↦ none n (omega (arith, below, other)) same
    ])
  ]
]

-- Open names, where one channel changed.

pub record OpenFrom (k : ℕ) (slots : List (Option Channel)) (name : List ℕ) : Type 0 where
  pub open_name : IsOpenName slots name
  pub from : k ≤ open_name.number

-- the channel has the name open
pub record HasOpen (c : Channel) (name : List ℕ) : Type 0 where
  pub opened : ChannelRun
  pub of : channel_run c.stage ≡ Some opened
  pub sub : ℕ
  pub made : sub < files_made c.stage
  pub is : piece_name_by c.spec.pattern opened.run sub ≡ name

pub has_open : (slots : List (Option Channel)) (name : List ℕ) (o : IsOpenName slots name) → HasOpen o.channel name
has_open slots name o = record { opened = o.opened; of = o.of; sub = o.sub; made = o.made; is = o.is }

abbrev pub open_at : (slots : List (Option Channel)) (n : ℕ) (c : Channel) (name : List ℕ) → slot_at slots n ≡ Some c → HasOpen c name → IsOpenName slots name
open_at slots n c name there has = record { number = n; channel = c; opened = has.opened; there = there; of = has.of; sub = has.sub; made = has.made; is = has.is }

pub set_open : (slots : List (Option Channel)) (n : ℕ) (before after : Channel) (name : List ℕ) → slot_at slots n ≡ Some before → IsOpenName (slice_set slots n (Some after)) name → HasOpen after name ⊎ IsOpenName slots name
set_open slots n before after name there o =
    one_changed (λ k x. HasOpen x name → HasOpen after name ⊎ IsOpenName slots name) slots n after (λ b here has. inl has) (λ k x other here has. inr (open_at slots k x name here has)) before there o.number o.channel o.there
    (has_open (slice_set slots n (Some after)) name o)

pub open_set : (k : ℕ) (slots : List (Option Channel)) (n : ℕ) (before after : Channel) (name : List ℕ) → slot_at slots n ≡ Some before → OpenFrom k slots name → (HasOpen before name → ⊥) → OpenFrom k (slice_set slots n (Some after)) name
open_set k slots n before after name there o none = elim (same_or_other o.open_name.number n) as (λ w. OpenFrom k (slice_set slots n (Some after)) name) [
  | inl same ↦
      let at_n : slot_at slots n ≡ Some o.open_name.channel = subst (λ (i : ℕ). slot_at slots i ≡ Some o.open_name.channel) same o.open_name.there in
      let is : o.open_name.channel ≡ before = cc (at_n, there) in
      absurd (none (subst (λ (c : Channel). HasOpen c name) is (has_open slots name o.open_name)))
  | inr other ↦ record {
    open_name = open_at (slice_set slots n (Some after)) o.open_name.number o.open_name.channel name (slot_set_other slots n o.open_name.number (Some after) other ∙ o.open_name.there) (has_open slots name o.open_name);
    from = o.from;
  }
]

-- and behind the number of that channel, where it has the name not open any more
pub open_past : (slots : List (Option Channel)) (n : ℕ) (before after : Channel) (name : List ℕ) → slot_at slots n ≡ Some before → OpenFrom n slots name → (HasOpen before name → ⊥) → OpenFrom (suc n) (slice_set slots n (Some after)) name
open_past slots n before after name there o none = elim (same_or_other o.open_name.number n) as (λ w. OpenFrom (suc n) (slice_set slots n (Some after)) name) [
  | inl same ↦
      let at_n : slot_at slots n ≡ Some o.open_name.channel = subst (λ (i : ℕ). slot_at slots i ≡ Some o.open_name.channel) same o.open_name.there in
      let is : o.open_name.channel ≡ before = cc (at_n, there) in
      absurd (none (subst (λ (c : Channel). HasOpen c name) is (has_open slots name o.open_name)))
  | inr other ↦ record {
    open_name = open_at (slice_set slots n (Some after)) o.open_name.number o.open_name.channel name (slot_set_other slots n o.open_name.number (Some after) other ∙ o.open_name.there) (has_open slots name o.open_name);
    from = (let least : n ≤ o.open_name.number = o.from in omega arith);
  }
]

pub idle_none : (c : Channel) (name : List ℕ) → c.stage ≡ Idle → HasOpen c name → ⊥
idle_none c name idle has = no_run c.stage has.opened idle has.of

-- Opening.

pub record Opening (Good : List ℕ → Option Stored → Type 0) (n : ℕ) (m : LoggerMoment) : Type 0 where
  pub names : IsTrue m.files.seen.names
  pub each : (name : List ℕ) → (Good name (m.files.seen.at name)) ⊎ OpenFrom 0 m.slots name
  pub fresh : (name : List ℕ) → IsOpenName m.slots name → Good name None
  pub idle : (i : ℕ) (c : Channel) → n ≤ i → slot_at m.slots i ≡ Some c → c.stage ≡ Idle

opening_none : (Good : List ℕ → Option Stored → Type 0) (n : ℕ) (a b : LoggerMoment) → b ≡ a → Opening Good n a → Opening Good (suc n) b
opening_none Good n a b same g = subst (λ (m : LoggerMoment). Opening Good (suc n) m) (sym same)
    (record { names = g.names; each = g.each; fresh = g.fresh; idle = λ i c le at. g.idle i c (omega (arith, le)) at })

opening_one : (Good : List ℕ → Option Stored → Type 0) (order : Order) (dump : List ℕ) (n : ℕ) (before : Channel) (a b : LoggerMoment) → slot_at a.slots n ≡ Some before → StepsChannel (OpensChannel order dump (Ok tt)) n before a b → Opening Good n a → Opening Good (suc n) b
opening_one Good order dump n before a b there s g =
    let o = s.step.opens in
    let name_n : List ℕ = file_name_by before.spec.pattern order.run in
    let touches : Touches a.files.seen b.files.seen name_n = o.makes.touches in
    let opened : ChannelRun = record { run = order.run; start = order.start; time = order.time; at = o.at; client = o.asks.client; request = o.asks.request } in
    let of : channel_run s.after.stage ≡ Some opened = ap channel_run o.asks.stage in
    let sub : o.at.sub ≡ 0 = ap (λ (f : OpenFile). f.sub) o.first in
    let made : files_made s.after.stage ≡ o.at.sub + 1 = ap files_made o.asks.stage in
    let slots : List (Option Channel) = slice_set a.slots n (Some s.after) in
    let none_n : Good name_n None = elim (g.each name_n) as (λ w. Good name_n None) [
      | inl same ↦ subst (λ (x : Option Stored). Good name_n x) (o.makes.fresh g.names) same
      | inr open_ ↦ g.fresh name_n open_.open_name
    ] in
    let idle : before.stage ≡ Idle = g.idle n before (omega arith) there in
    let here : OpenFrom 0 slots name_n = record {
      open_name = open_at slots n s.after name_n (put_there a.slots n before s.after there) (record { opened = opened; of = of; sub = 0; made = omega (arith, made, sub); is = ap (λ (x : ChannelSpec). file_name_by x.pattern order.run) s.step.spec });
      from = omega arith;
    } in
    let now : Opening Good (suc n) (record b { slots = slots }) = record {
      names = subst (λ (t : Bool). IsTrue t) (sym touches.names) g.names;
      each = λ name. elim (names_tell name name_n) as (λ w. (Good name (b.files.seen.at name)) ⊎ OpenFrom 0 slots name) [
        | inl same ↦ inr (subst (λ (l : List ℕ). OpenFrom 0 slots l) (sym same) here)
        | inr differs ↦ elim (g.each name) as (λ w. (Good name (b.files.seen.at name)) ⊎ OpenFrom 0 slots name) [
          | inl old ↦ inl (subst (λ (x : Option Stored). Good name x) (sym (touches.others name differs)) old)
          | inr open_ ↦ inr (open_set 0 a.slots n before s.after name there open_ (idle_none before name idle))
        ]
      ];
      fresh = λ name open_. elim (set_open a.slots n before s.after name there open_) as (λ w. Good name None) [
        | inl mine ↦
            let same_run : opened.run ≡ mine.opened.run = (let is = mine.of in cc (of, is)) in
            let first : 0 ≡ mine.sub = (let below = mine.made in omega (arith, below, made, sub)) in
            let is : name_n ≡ name = ap (λ (x : ChannelSpec). file_name_by x.pattern order.run) (sym s.step.spec)
            ∙ (ap (λ (r : ℕ). file_name_by s.after.spec.pattern r) same_run ∙ (ap (λ (k : ℕ). piece_name_by s.after.spec.pattern mine.opened.run k) first ∙ mine.is)) in
            subst (λ (l : List ℕ). Good l None) is none_n
        | inr old ↦ g.fresh name old
      ];
      idle = λ i c le at. one_changed (λ k x. suc n ≤ k → x.stage ≡ Idle) a.slots n s.after (λ x here_ low. absurd (omega (arith, low))) (λ k x other here_ low. g.idle k x (omega (arith, low)) here_) before there i c at le;
    } in
    subst (λ (l : List (Option Channel)). Opening Good (suc n) (record b { slots = l })) (sym s.slots) now

opening_slot : (Good : List ℕ → Option Stored → Type 0) (order : Order) (dump : List ℕ) (n : ℕ) (slot : Option Channel) (a b : LoggerMoment) → slot_at a.slots n ≡ slot → StepsSlot (OpensChannel order dump (Ok tt)) n slot a b → Opening Good n a → Opening Good (suc n) b
opening_slot Good order dump n None a b there same g = opening_none Good n a b same g
opening_slot Good order dump n (Some before) a b there s g = opening_one Good order dump n before a b there s g

pub opening_all : (Good : List ℕ → Option Stored → Type 0) (order : Order) (dump : List ℕ) (n : ℕ) (a b : LoggerMoment) → OpensBelow order dump n a b → Opening Good 0 a → Opening Good n b
opening_all Good order dump zero a b same g = subst (λ (m : LoggerMoment). Opening Good 0 m) (sym same) g
opening_all Good order dump (suc n) a b opens g = opening_slot Good order dump n (slot_at opens.0.slots n) opens.0 b refl opens.2 (opening_all Good order dump n a opens.0 opens.1 g)

pub opening_first : (Good : List ℕ → Option Stored → Type 0) (a : LoggerMoment) → AreIdleChannels a.slots → IsTrue a.files.seen.names → NamesLeft Good a.slots a.files.seen → Opening Good 0 a
opening_first Good a idle tells left = record {
  names = tells;
  each = λ name. elim (left.each name) as (λ w. Good name (a.files.seen.at name) ⊎ OpenFrom 0 a.slots name) [
    | inl same ↦ inl same
    | inr o ↦ inr (record { open_name = o; from = omega arith })
  ];
  fresh = left.fresh;
  idle = λ i c le at. idle i c at;
}

-- where a name has no file, that is good
pub opening_free : (Good : List ℕ → Option Stored → Type 0) (n : ℕ) (m : LoggerMoment) → Opening Good n m → (name : List ℕ) → m.files.seen.at name ≡ None → Good name None
opening_free Good n m g name none = elim (g.each name) as (λ w. Good name None) [
  | inl good ↦ subst (λ (x : Option Stored). Good name x) none good
  | inr open_ ↦ g.fresh name open_.open_name
]

-- While the run is opened.

pub no_file : (x : Option Stored) → x ≡ None → IsSome x → ⊥
no_file x none some = (let no : IsSome {T = Stored} None = subst (λ (y : Option Stored). IsSome y) none some in cc (no))

-- The name of this channel was free when it opened the run.
pub record WasFree (Good : List ℕ → Option Stored → Type 0) (specs : List (Option ChannelSpec)) (run : ℕ) (old : Seen) (place : ℕ) (name : List ℕ) : Type 0 where
  pub good : Good name None
  pub none : IsSome (old.at name) → ⊥
  pub none_gives : IsGivenBefore specs place run name → ⊥

-- What the channels are stays, and each that has a run has this one, of which it made one file, which is there. So are the files that
-- were there before. Of the channels with numbers below this each has its name, which was free.
pub record Opens (Good : List ℕ → Option Stored → Type 0) (specs : List (Option ChannelSpec)) (run n : ℕ) (old : Seen) (m : LoggerMoment) : Type 0 where
  pub specs_are : specs_in m.slots ≡ specs
  pub runs : (i : ℕ) → (c : Channel) → (opened : ChannelRun) → slot_at m.slots i ≡ Some c → channel_run c.stage ≡ Some opened → opened.run ≡ run
  pub few : (i : ℕ) → (c : Channel) → slot_at m.slots i ≡ Some c → files_made c.stage ≤ 1
  pub there : (name : List ℕ) → IsOpenName m.slots name → IsSome (m.files.seen.at name)
  pub kept : (name : List ℕ) → IsSome (old.at name) → IsSome (m.files.seen.at name)
  pub opened : (i : ℕ) → (spec : ChannelSpec) → i < n → slot_at specs i ≡ Some spec → IsOpenName m.slots (file_name_by spec.pattern run)
  pub free : (i : ℕ) → (spec : ChannelSpec) → i < n → slot_at specs i ≡ Some spec → WasFree Good specs run old i (file_name_by spec.pattern run)

opens_none : (Good : List ℕ → Option Stored → Type 0) (specs : List (Option ChannelSpec)) (run n : ℕ) (old : Seen) (m : LoggerMoment) → slot_at m.slots n ≡ None → Opens Good specs run n old m → Opens Good specs run (suc n) old m
opens_none Good specs run n old m there o = record {
  specs_are = o.specs_are;
  runs = o.runs;
  few = o.few;
  there = o.there;
  kept = o.kept;
  opened = λ i spec below at. o.opened i spec (lower i spec below at) at;
  free = λ i spec below at. o.free i spec (lower i spec below at) at;
}
  where
    lower : (i : ℕ) (spec : ChannelSpec) → i < suc n → slot_at specs i ≡ Some spec → i < n
    lower i spec below at = elim (same_or_other i n) as (λ w. i < n) [
      | inl same ↦
          let here : slot_at specs n ≡ Some spec = subst (λ (k : ℕ). slot_at specs k ≡ Some spec) same at in
          let found = spec_from m.slots n spec (subst (λ (l : List (Option ChannelSpec)). slot_at l n ≡ Some spec) (sym o.specs_are) here) in
          absurd (let is = found.1 in cc (there, is))
      | inr other ↦ omega (arith, below, other)
    ]

opens_one : (Good : List ℕ → Option Stored → Type 0) (specs : List (Option ChannelSpec)) (order : Order) (dump : List ℕ) (n : ℕ) (old : Seen) (before : Channel) (a b : LoggerMoment) → slot_at a.slots n ≡ Some before → StepsChannel (OpensChannel order dump (Ok tt)) n before a b → Opening Good n a → Opens Good specs order.run n old a
    → Opens Good specs order.run (suc n) old b
opens_one Good specs order dump n old before a b there s g o =
    let opens = s.step.opens in
    let name_n : List ℕ = file_name_by before.spec.pattern order.run in
    let touches : Touches a.files.seen b.files.seen name_n = opens.makes.touches in
    let opened : ChannelRun = record { run = order.run; start = order.start; time = order.time; at = opens.at; client = opens.asks.client; request = opens.asks.request } in
    let of : channel_run s.after.stage ≡ Some opened = ap channel_run opens.asks.stage in
    let sub : opens.at.sub ≡ 0 = ap (λ (f : OpenFile). f.sub) opens.first in
    let made : files_made s.after.stage ≡ opens.at.sub + 1 = ap files_made opens.asks.stage in
    let none_n : a.files.seen.at name_n ≡ None = opens.makes.fresh g.names in
    let idle : before.stage ≡ Idle = g.idle n before (omega arith) there in
    let slots : List (Option Channel) = slice_set a.slots n (Some s.after) in
    let mine : IsOpenName slots name_n = open_at slots n s.after name_n (put_there a.slots n before s.after there) (record { opened = opened; of = of; sub = 0; made = omega (arith, made, sub); is = ap (λ (x : ChannelSpec). file_name_by x.pattern order.run) s.step.spec }) in
    let stays : (name : List ℕ) → IsSome (a.files.seen.at name) → IsSome (b.files.seen.at name) = λ name some. elim (names_tell name name_n) as (λ w. IsSome (b.files.seen.at name)) [
      | inl same ↦ absurd (no_file (a.files.seen.at name_n) none_n (subst (λ (l : List ℕ). IsSome (a.files.seen.at l)) same some))
      | inr differs ↦ subst (λ (x : Option Stored). IsSome x) (sym (touches.others name differs)) some
    ] in
    let now_there : IsSome (b.files.seen.at name_n) = subst (λ (x : Option Stored). IsSome x) (sym (opens.makes.holds g.names)) refl in
    let still : (name : List ℕ) → IsOpenName a.slots name → IsOpenName slots name = λ name open_. (open_set 0 a.slots n before s.after name there (record { open_name = open_; from = omega arith }) (idle_none before name idle)).open_name in
    let its : (spec : ChannelSpec) → slot_at specs n ≡ Some spec → before.spec ≡ spec = λ spec at.
    (let here : slot_at specs n ≡ Some before.spec = subst (λ (l : List (Option ChannelSpec)). slot_at l n ≡ Some before.spec) o.specs_are (spec_at a.slots n before there) in cc (here, at)) in
    let now : Opens Good specs order.run (suc n) old (record b { slots = slots }) = record {
      specs_are = specs_set a.slots n before s.after there s.step.spec ∙ o.specs_are;
      runs = λ k c other at is.
          one_changed (λ i x. channel_run x.stage ≡ Some other → other.run ≡ order.run) a.slots n s.after
          (λ x here has. (let same : opened ≡ other = cc (of, has) in sym (ap (λ (y : ChannelRun). y.run) same)))
          (λ i x differs here has. o.runs i x other here has) before there k c at is;
      few = λ k c at. one_changed (λ i x. files_made x.stage ≤ 1) a.slots n s.after (λ x here. omega (arith, made, sub)) (λ i x differs here. o.few i x here) before there k c at;
      there = λ name open_. elim (set_open a.slots n before s.after name there open_) as (λ w. IsSome (b.files.seen.at name)) [
        | inl has ↦
            let same_run : opened.run ≡ has.opened.run = (let is = has.of in cc (of, is)) in
            let first : 0 ≡ has.sub = (let below = has.made in omega (arith, below, made, sub)) in
            let is : name_n ≡ name = ap (λ (x : ChannelSpec). file_name_by x.pattern order.run) (sym s.step.spec)
            ∙ (ap (λ (r : ℕ). file_name_by s.after.spec.pattern r) same_run ∙ (ap (λ (k : ℕ). piece_name_by s.after.spec.pattern has.opened.run k) first ∙ has.is)) in
            subst (λ (l : List ℕ). IsSome (b.files.seen.at l)) is now_there
        | inr was ↦ stays name (o.there name was)
      ];
      kept = λ name some. stays name (o.kept name some);
      opened = λ i spec below at. elim (same_or_other i n) as (λ w. IsOpenName slots (file_name_by spec.pattern order.run)) [
        | inl same ↦ subst (λ (x : ChannelSpec). IsOpenName slots (file_name_by x.pattern order.run)) (its spec (subst (λ (k : ℕ). slot_at specs k ≡ Some spec) same at)) mine
        | inr other ↦ still (file_name_by spec.pattern order.run) (o.opened i spec (omega (arith, below, other)) at)
      ];
      free = λ i spec below at. elim (same_or_other i n) as (λ w. WasFree Good specs order.run old i (file_name_by spec.pattern order.run)) [
        | inl same ↦
            let is : before.spec ≡ spec = its spec (subst (λ (k : ℕ). slot_at specs k ≡ Some spec) same at) in
            let name : List ℕ = file_name_by spec.pattern order.run in
            let none : a.files.seen.at name ≡ None = subst (λ (x : ChannelSpec). a.files.seen.at (file_name_by x.pattern order.run) ≡ None) is none_n in
            record {
              good = opening_free Good n a g name none;
              none = λ some. no_file (a.files.seen.at name) none (o.kept name some);
              none_gives = λ given.
                  let low : given.lower < n = subst (λ (k : ℕ). given.lower < k) same given.below in
                  let open_ : IsOpenName a.slots (file_name_by given.spec.pattern order.run) = o.opened given.lower given.spec low given.there in
                  let some : IsSome (a.files.seen.at name) = subst (λ (l : List ℕ). IsSome (a.files.seen.at l)) given.is (o.there (file_name_by given.spec.pattern order.run) open_) in
                  no_file (a.files.seen.at name) none some;
            }
        | inr other ↦ o.free i spec (omega (arith, below, other)) at
      ];
    } in
    subst (λ (l : List (Option Channel)). Opens Good specs order.run (suc n) old (record b { slots = l })) (sym s.slots) now

opens_slot : (Good : List ℕ → Option Stored → Type 0) (specs : List (Option ChannelSpec)) (order : Order) (dump : List ℕ) (n : ℕ) (old : Seen) (slot : Option Channel) (a b : LoggerMoment) → slot_at a.slots n ≡ slot → StepsSlot (OpensChannel order dump (Ok tt)) n slot a b → Opening Good n a → Opens Good specs order.run n old a
    → Opens Good specs order.run (suc n) old b
opens_slot Good specs order dump n old None a b there same g o = subst (λ (m : LoggerMoment). Opens Good specs order.run (suc n) old m) (sym same) (opens_none Good specs order.run n old a there o)
opens_slot Good specs order dump n old (Some before) a b there s g o = opens_one Good specs order dump n old before a b there s g o

pub opens_all : (Good : List ℕ → Option Stored → Type 0) (order : Order) (dump : List ℕ) (n : ℕ) (a b : LoggerMoment) → OpensBelow order dump n a b → AreIdleChannels a.slots → Opening Good 0 a → Opens Good (specs_in a.slots) order.run n a.files.seen b
opens_all Good order dump zero a b same idle g = subst (λ (m : LoggerMoment). Opens Good (specs_in a.slots) order.run 0 a.files.seen m) (sym same) (record {
  specs_are = refl;
  runs = λ n c opened at is. absurd (no_run c.stage opened (idle n c at) is);
  few = λ n c at. (let made : files_made c.stage ≡ 0 = ap files_made (idle n c at) in omega (arith, made));
  there = λ name open_. absurd (no_run open_.channel.stage open_.opened (idle open_.number open_.channel open_.there) open_.of);
  kept = λ name some. some;
  opened = λ i spec below at. absurd (omega (arith, below));
  free = λ i spec below at. absurd (omega (arith, below));
})
opens_all Good order dump (suc n) a b opens idle g =
    opens_slot Good (specs_in a.slots) order dump n a.files.seen (slot_at opens.0.slots n) opens.0 b refl opens.2 (opening_all Good order dump n a opens.0 opens.1 g) (opens_all Good order dump n a opens.0 opens.1 idle g)

-- so each name that a channel has open is that of its first file in the run
pub opened_first : (Good : List ℕ → Option Stored → Type 0) (specs : List (Option ChannelSpec)) (run n : ℕ) (old : Seen) (m : LoggerMoment) → Opens Good specs run n old m → (name : List ℕ) (open_ : IsOpenName m.slots name) → file_name_by open_.channel.spec.pattern run ≡ name
opened_first Good specs run n old m o name open_ =
    let same_run : open_.opened.run ≡ run = o.runs open_.number open_.channel open_.opened open_.there open_.of in
    let first : 0 ≡ open_.sub = (let made = open_.made in omega (arith, made, o.few open_.number open_.channel open_.there)) in
    ap (λ (n : ℕ). file_name_by open_.channel.spec.pattern n) (sym same_run) ∙ (ap (λ (k : ℕ). piece_name_by open_.channel.spec.pattern open_.opened.run k) first ∙ open_.is)
