-- Events, their bytes, their room in a buffer, and which requests want them.
use Rattle.std.specs.Prelude.{◌≡◌, ℕ, ◌+◌, List, [], ◌∷◌, ◌++◌, length, refl}
use Rattle.std.proofs.Common.{ap, sym, ◌∙◌, length-append, append_assoc}
use Rattle.daq_types.specs.declared.events.Event.{Event}
use Rattle.event.specs.Events.{header_bytes, header_of, encoding, all_encoded}

pub length-header_bytes : (id mask serial time size : ℕ) → length (header_bytes id mask serial time size) ≡ 16
unfolding header_bytes
length-header_bytes id mask serial time size = refl

pub length-encoding : (e : Event) → length (encoding e) ≡ 16 + length e.body
length-encoding e = length-append (header_of e) e.body ∙ ap (λ n. n + length e.body) (length-header_bytes e.id e.mask e.serial e.time (length e.body))

pub all_encoded-append : (es fs : List Event) → all_encoded (es ++ fs) ≡ all_encoded es ++ all_encoded fs
all_encoded-append [] fs = refl
all_encoded-append (e ∷ es) fs = ap (λ bytes. encoding e ++ bytes) (all_encoded-append es fs) ∙ sym (append_assoc (encoding e) (all_encoded es) (all_encoded fs))
