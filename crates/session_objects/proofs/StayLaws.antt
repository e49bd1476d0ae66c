-- The members of a session stay those of its declarations over their turns, and are those at first.
use Rattle.std.proofs.Common.{◌≡◌, ℕ, zero, suc, ◌≤◌, List, [], ◌∷◌, length, sym, ap, ◌∙◌, refl, subst, arith}
use Rattle.std.specs.Prelude.{slice_get, Option, Some, None, Contains}
use Rattle.std.specs.Option.{option_map}
use Rattle.std.proofs.lemmas.List.{length-map}
use Rattle.std.proofs.lemmas.List.Elements.{length_all_zip}
use Rattle.std.proofs.lemmas.Option.{slice_get-get_or, slice_get_within, slice_get-map, get_or_from_slice_get}
use Rattle.daq_types.specs.Callers.{caller_of_client}
use Rattle.daq_io.specs.Told.{FilesTold}
use Rattle.buffer_core.specs.Ports.{Access}
use Rattle.buffer_core.specs.Slots.{slot_at}
use Rattle.odb_lock.specs.declared.shared.SharedOdb.{SharedOdb}
use Rattle.frontend_kit.specs.declared.generator.Generator.{Generator}
use Rattle.mid_logger.specs.declared.channel.Channel.{Channel}
use Rattle.mid_logger.specs.declared.channel_spec.ChannelSpec.{ChannelSpec}
use Rattle.loggers.specs.Moments.{IsSameAccess, channel_limit}
use Rattle.loggers.specs.NewLoggers.{new_channel, IsNewChannel}
use Rattle.loggers.specs.OtherFiles.{AreDeclared, specs_in}
use Rattle.daq_members.proofs.StayLaws.{zip_there}
use Rattle.daq_members.specs.FrontSeats.{FrontSeen, IsSameFront}
use Rattle.daq_members.specs.LoggerSeats.{LoggerSeen, IsSameLogger}
use Rattle.daq_members.specs.SeatedAnalyzers.{AnalyzerSeen, IsSameAnalyzer}
use Rattle.daq_members.specs.Members.{MemberSeen, IsSameMember, SameFront, SameLogger, SameAnalyzer}
use Rattle.session_setup.specs.declared.declared.AnalyzerDeclared.{AnalyzerDeclared}
use Rattle.session_setup.specs.declared.declared.FrontDeclared.{FrontDeclared}
use Rattle.session_setup.specs.declared.member.MemberDeclared.{MemberDeclared}
use Rattle.session_objects.specs.declared.objects.SessionBuffer.{SessionBuffer}
use Rattle.session_objects.specs.declared.objects.SessionObjects.{SessionObjects}
use Rattle.session_objects.specs.Members.{generator_takes, generator_makes, members_told, IsFrontOf, IsLoggerOf, IsAnalyzerOf, IsMemberOf, FrontIs, LoggerIs, AnalyzerIs, KeepsMembers, IsNewFront, IsNewLogger, IsNewAnalyzer, IsNewMember, NewFront, NewLogger, NewAnalyzer, new_port, event_rooms, event_room_of}
use Rattle.session_objects.proofs.ChangeLaws.{some_same, there_below}
use Rattle.session_objects.proofs.ListedLaws.{logger_there}

-- The logger keeps its channels.
channels_stay : {F : Type 0} (channels : List ChannelSpec) (before after : LoggerSeen F) → IsSameLogger before after →
    AreDeclared channels before.slots → AreDeclared channels after.slots
channels_stay channels before after same d =
    let P : List (Option ChannelSpec) → (number : ℕ) → (spec : ChannelSpec) → Type 0 = λ specs number spec. slot_at specs number ≡ Some spec in
    let count : length after.slots ≡ length before.slots =
    sym (length-map after.slots (option_map (λ (c : Channel). c.spec))) ∙ ap length same.specs ∙ length-map before.slots (option_map (λ (c : Channel). c.spec)) in
    let few : length before.slots ≤ channel_limit = d.few in record {
      few = omega arith;
      each = λ number spec at. d.each number spec (ap (λ (specs : List (Option ChannelSpec)). slot_at specs number) (sym same.specs) ∙ at);
      all = λ spec has. ap (λ (specs : List (Option ChannelSpec)). slot_at specs spec.number) same.specs ∙ d.all spec has;
    }

-- A member stays the one that was declared, if it stays the same one.
module _ {D : Type 0} (objects : SessionObjects) (shared : SharedOdb D) (client : ℕ) where
  front_stays : (declared : FrontDeclared) (before after : FrontSeen Generator) → IsSameFront generator_takes generator_makes before after → IsFrontOf objects shared client declared before →
      IsFrontOf objects shared client declared after
  front_stays declared before after same f = record {
    is = same.client ∙ f.is;
    name = same.name ∙ f.name;
    takes = same.takes_as ∙ f.takes;
    makes = same.makes_as ∙ f.makes;
    engine = same.engine ∙ f.engine;
    buffer = f.buffer;
    has_buffer = f.has_buffer;
    port = same.port.0 ∙ f.port;
    port_caller = same.port.1 ∙ f.port_caller;
    access = same.database.database ∙ f.access;
    access_caller = same.database.caller ∙ f.access_caller;
  }

module _ {F : Type 0} (objects : SessionObjects) (channels : List ChannelSpec) (client : ℕ) where
  logger_stays : (before after : LoggerSeen F) → IsSameLogger before after → IsLoggerOf objects channels client before → IsLoggerOf objects channels client after
  logger_stays before after same l = record {
    is = same.client ∙ l.is;
    channels_are = channels_stay channels before after same l.channels_are;
    engine = same.engine ∙ l.engine;
    ports = record {
      many = same.ports.many ∙ l.ports.many;
      each = λ number buffer port at there.
          let earlier = same.ports.there number port there in
          let e : IsSameAccess earlier.0 port = same.ports.same number earlier.0 port earlier.1 there in
          let was = l.ports.each number buffer earlier.0 at earlier.1 in (e.0 ∙ was.0, e.1 ∙ was.1);
    };
  }

module _ (objects : SessionObjects) (client : ℕ) where
  analyzer_stays : (declared : AnalyzerDeclared) (before after : AnalyzerSeen) → IsSameAnalyzer before after → IsAnalyzerOf objects client declared before → IsAnalyzerOf objects client declared after
  analyzer_stays declared before after same a = record {
    is = same.client ∙ a.is;
    wanted = same.wanted ∙ a.wanted;
    engine = same.engine ∙ a.engine;
    buffer = a.buffer;
    has_buffer = a.has_buffer;
    port = same.port.0 ∙ a.port;
    port_caller = same.port.1 ∙ a.port_caller;
  }

module _ {D F : Type 0} (objects : SessionObjects) (shared : SharedOdb D) (channels : List ChannelSpec) (client : ℕ) where
  member_stays : (read : F → FilesTold) {wanted : MemberDeclared} {before after : MemberSeen Generator F} → IsSameMember (members_told read) before after → IsMemberOf objects shared channels client wanted before →
      IsMemberOf objects shared channels client wanted after
  member_stays read (SameFront {after = after} same) (FrontIs {wanted = declared} {front = before} is) = FrontIs (front_stays objects shared client declared before after same is)
  member_stays read (SameLogger {after = after} same) (LoggerIs {logger = before} is) = LoggerIs (logger_stays objects channels client before after same.same is)
  member_stays read (SameAnalyzer {after = after} same) (AnalyzerIs {wanted = declared} {analyzer = before} is) = AnalyzerIs (analyzer_stays objects client declared before after same is)

pub members_stay : (D : Type 0) {F : Type 0} (read : F → FilesTold) → KeepsMembers D (members_told read)
members_stay D {F} read = record {
  stay = λ lists objects shared before after same are.
      let count : length before ≡ length after = length_all_zip (IsSameMember (members_told read)) before after same in record {
        many = sym count ∙ are.many;
        each = λ client wanted member at there.
            let l = slice_get_within after client member there in
            let was = there_below before client (omega (arith, l, count)) in
            let next = zip_there (IsSameMember (members_told read)) before after client was.0 same was.1 in
            member_stays objects shared lists.channels client read
            (subst (λ (m : MemberSeen Generator F). IsSameMember (members_told read) was.0 m) (some_same next.0 member (sym next.1 ∙ there)) next.2) (are.each client wanted was.0 at was.1);
      };
  logger = λ lists objects shared members are. logger_there lists objects shared members are;
}

-- A new logger has the channels that were declared.
spec_of_slot : (slots : List (Option Channel)) (n : ℕ) → slot_at (specs_in slots) n ≡ option_map (λ (c : Channel). c.spec) (slot_at slots n)
spec_of_slot [] n = refl
spec_of_slot (o ∷ os) zero = refl
spec_of_slot (o ∷ os) (suc n) = spec_of_slot os n

channel_there : (o : Option Channel) (spec : ChannelSpec) → option_map (λ (c : Channel). c.spec) o ≡ Some spec → (c : Channel) × (o ≡ Some c) × (c.spec ≡ spec)
channel_there None spec e = absurd (cc)
channel_there (Some c) spec e = (c, refl, some_same c.spec spec e)

new_channels_are : {F : Type 0} (objects : SessionObjects) (client : ℕ) (channels : List ChannelSpec) (files : F) (logger : LoggerSeen F) →
    IsNewLogger objects client channels files logger → AreDeclared channels logger.slots
new_channels_are objects client channels files logger n =
    let many : length logger.slots ≡ channel_limit = n.slots.many in record {
      few = omega arith;
      each = λ number spec at. each number spec at;
      all = λ spec has. all spec has;
    }
  where
    each : (number : ℕ) (spec : ChannelSpec) → slot_at (specs_in logger.slots) number ≡ Some spec → Contains channels spec × (spec.number ≡ number)
    each number spec at =
        let found = channel_there (slot_at logger.slots number) spec (sym (spec_of_slot logger.slots number) ∙ at) in
        let only = n.slots.only number found.0 found.1 in
        let new = only.1.1 in
        let same : new.spec ≡ spec = ap (λ (c : Channel). c.spec) (sym new.is) ∙ found.2 in
        let P : ChannelSpec → Type 0 = λ s. Contains channels s in (
          subst P same (only.1.0, slice_get_within channels only.1.0 new.spec new.has_spec, get_or_from_slice_get channels only.1.0 new.spec new.spec new.has_spec),
          ap (λ (s : ChannelSpec). s.number) (sym found.2) ∙ only.0,
        )

    all : (spec : ChannelSpec) → Contains channels spec → slot_at (specs_in logger.slots) spec.number ≡ Some spec
    all spec has =
        let at : slice_get channels has.0 ≡ Some spec = slice_get-get_or channels has.0 spec has.1 ∙ ap (λ (s : ChannelSpec). Some s) has.2 in
        let rooms : List ℕ = event_rooms objects.buffers.items channels in
        let room : ℕ = event_room_of (slice_get objects.buffers.items spec.buffer) in
        let has_room : slice_get rooms has.0 ≡ Some room = slice_get-map (λ (c : ChannelSpec). event_room_of (slice_get objects.buffers.items c.buffer)) channels has.0
        ∙ ap (option_map (λ (c : ChannelSpec). event_room_of (slice_get objects.buffers.items c.buffer))) at in
        let c : Channel = new_channel spec room in
        let is : IsNewChannel channels rooms has.0 c = record { spec = spec; room = room; has_spec = at; has_room = has_room; is = refl } in
        spec_of_slot logger.slots spec.number ∙ ap (option_map (λ (d : Channel). d.spec)) (n.slots.each has.0 c is)

-- A member that made no call is the one that was declared.
module _ {D F : Type 0} (objects : SessionObjects) (shared : SharedOdb D) (channels : List ChannelSpec) (files : F) (client : ℕ) where
  new_front_is : (declared : FrontDeclared) (front : FrontSeen Generator) → IsNewFront objects shared client declared front → IsFrontOf objects shared client declared front
  new_front_is declared front f = let P : FrontSeen Generator → Type 0 = λ seen. IsFrontOf objects shared client declared seen in
      subst P (sym f.is) (record {
        is = refl;
        name = refl;
        takes = refl;
        makes = refl;
        engine = refl;
        buffer = f.buffer;
        has_buffer = f.has_buffer;
        port = refl;
        port_caller = refl;
        access = refl;
        access_caller = refl;
      })

  abbrev new_one : SessionBuffer → Access
  new_one buffer = new_port buffer.shared (caller_of_client client)

  new_logger_is : (logger : LoggerSeen F) → IsNewLogger objects client channels files logger → IsLoggerOf objects channels client logger
  new_logger_is logger n = record {
    is = n.is;
    channels_are = new_channels_are objects client channels files logger n;
    engine = n.engine;
    ports = record {
      many = ap length n.ports ∙ length-map objects.buffers.items new_one;
      each = λ number buffer port at there.
          let is : new_one buffer ≡ port = some_same (new_one buffer) port (ap (option_map new_one) (sym at) ∙ sym (slice_get-map new_one objects.buffers.items number)
          ∙ ap (λ (ps : List Access). slice_get ps number) (sym n.ports) ∙ there) in
          (ap (λ (a : Access). a.buffer) (sym is), ap (λ (a : Access). a.caller) (sym is));
    };
  }

  new_analyzer_is : (declared : AnalyzerDeclared) (analyzer : AnalyzerSeen) → IsNewAnalyzer objects client declared analyzer → IsAnalyzerOf objects client declared analyzer
  new_analyzer_is declared analyzer a = let P : AnalyzerSeen → Type 0 = λ seen. IsAnalyzerOf objects client declared seen in
      subst P (sym a.is) (record {
        is = refl;
        wanted = refl;
        engine = refl;
        buffer = a.buffer;
        has_buffer = a.has_buffer;
        port = refl;
        port_caller = refl;
      })

  pub new_member_is : {wanted : MemberDeclared} {member : MemberSeen Generator F} → IsNewMember objects shared channels files client wanted member → IsMemberOf objects shared channels client wanted member
  new_member_is (NewFront {wanted = declared} {front = front} new) = FrontIs (new_front_is declared front new)
  new_member_is (NewLogger {logger = logger} new) = LoggerIs (new_logger_is logger new)
  new_member_is (NewAnalyzer {wanted = declared} {analyzer = analyzer} new) = AnalyzerIs (new_analyzer_is declared analyzer new)
