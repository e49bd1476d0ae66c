-- A logger that made no call, and its ports.
use Rattle.std.proofs.Common.{◌≡◌, ◌∙◌, ℕ, zero, suc, ◌<◌, ◌-◌, min, List, [], ◌∷◌, length, map, ap, sym, refl, subst, arith}
use Rattle.std.specs.Prelude.{slice_get, Some}
use Rattle.std.specs.Option.{option_map}
use Rattle.std.proofs.lemmas.List.{length-map}
use Rattle.std.proofs.lemmas.Option.{slice_get-map}
use Rattle.event.specs.Events.{event_limit}
use Rattle.buffer_core.specs.Window.{Window}
use Rattle.buffer_core.specs.Ports.{Access}
use Rattle.mid_logger.specs.declared.channel_spec.ChannelSpec.{ChannelSpec}
use Rattle.loggers.specs.NewLoggers.{HavePorts, AreUnused, HaveRooms}
use Rattle.session_objects.specs.declared.objects.SessionBuffer.{SessionBuffer}
use Rattle.session_objects.specs.Members.{new_port, event_room_of, event_rooms}
use Rattle.session_objects.proofs.ChangeLaws.{some_same}

module _ (bs : List SessionBuffer) (caller : ℕ) where
  -- the port to the buffer of a number
  abbrev made : SessionBuffer → Access
  made b = new_port b.shared caller

  port_made : (xs : List SessionBuffer) (k : ℕ) (a : Access) → slice_get (map made xs) k ≡ Some a → (b : SessionBuffer) × (slice_get xs k ≡ Some b) × (made b ≡ a)
  port_made [] k a at = absurd (cc)
  port_made (x ∷ xs) zero a at = (x, refl, some_same (made x) a at)
  port_made (x ∷ xs) (suc k) a at = port_made xs k a at

  pub have_ports : (channels : List ChannelSpec) →
      ((place : ℕ) → (channel : ChannelSpec) → slice_get channels place ≡ Some channel → channel.buffer < length bs) → HavePorts channels (map made bs)
  have_ports channels read i s at = let l : s.buffer < length bs = read i s at in let e : length (map made bs) ≡ length bs = length-map bs made in omega arith

  pub are_unused : AreUnused (map made bs)
  are_unused buffer a at = let b = port_made bs buffer a at in
      let P : Access → Type 0 = λ z. (z.own ≡ []) × (z.got ≡ []) in subst P b.2 (refl, refl)

  pub have_rooms : (channels : List ChannelSpec) → HaveRooms channels (event_rooms bs channels) (map made bs)
  have_rooms channels place room s a at_s at_room at_a =
      let b = port_made bs s.buffer a at_a in
      let given : event_room_of (slice_get bs s.buffer) ≡ room = some_same (event_room_of (slice_get bs s.buffer)) room
      (ap (option_map (λ (c : ChannelSpec). event_room_of (slice_get bs c.buffer))) (sym at_s) ∙ sym (slice_get-map (λ (c : ChannelSpec). event_room_of (slice_get bs c.buffer)) channels place) ∙ at_room) in
      let is : min event_limit (b.0.size - 24) ≡ room = ap event_room_of (sym b.1) ∙ given in
      let size : a.size ≡ b.0.size = ap (λ (z : Access). z.size) (sym b.2) ∙ ap (λ (w : Window). w.size) b.0.opens in
      let same : min event_limit (a.size - 24) ≡ room = ap (λ (n : ℕ). min event_limit (n - 24)) size ∙ is in omega arith

-- new ports are their caller's
pub new_port_callers : (bs : List SessionBuffer) (caller buffer : ℕ) (a : Access) → slice_get (map (λ (b : SessionBuffer). new_port b.shared caller) bs) buffer ≡ Some a → a.caller ≡ caller
new_port_callers bs caller buffer a at = let b = port_made bs caller bs buffer a at in ap (λ (z : Access). z.caller) (sym b.2)
