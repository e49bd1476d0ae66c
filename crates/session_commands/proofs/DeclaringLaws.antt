-- The replies to the lines that declare something.
use Rattle.std.proofs.Common.{◌≡◌, ℕ, List, Option, Some, None, false, sym, subst, ap, ◌∙◌}
use Rattle.std.specs.Prelude.{Bool, Result, OnOk, OnErr}
use Rattle.mid_logger.specs.Patterns.{NamePattern}
use Rattle.session_setup.specs.declared.refusals.SetupRefusal.{SetupRefusal}
use Rattle.session_setup.specs.Setup.{Declared}
use Rattle.session_setup.specs.Refusals.{ok_unless}
use Rattle.session_setup.specs.SetupLines.{is_limited, IsPatternRead, with_channel}
use Rattle.console.specs.declared.replies.Reply.{Reply}
use Rattle.session_commands.specs.SetupReplies.{SetupUnless, TakesChannel, TakesSetup, setup_reply}

pub unless_closed : (opened : Bool) (Then : Type 0) (old : Declared) (reply : Reply) (new : Declared) → opened ≡ false → Then → SetupUnless opened Then old reply new
unless_closed opened Then old reply new closed this = subst (λ (o : Bool). SetupUnless o Then old reply new) (sym closed) this

pub taken_so : (refusal : Option SetupRefusal) (taken old new : Declared) (result : Result (Unit {0}) SetupRefusal) (reply : Reply) → result ≡ ok_unless refusal → OnOk result (new ≡ taken) → OnErr result (new ≡ old) → reply ≡ setup_reply result
    → TakesSetup refusal taken old reply new
taken_so None taken old new result reply is added same replied =
    (replied ∙ ap setup_reply is, subst (λ (r : Result (Unit {0}) SetupRefusal). OnOk r (new ≡ taken)) is added)
taken_so (Some refusal) taken old new result reply is added same replied =
    (replied ∙ ap setup_reply is, subst (λ (r : Result (Unit {0}) SetupRefusal). OnErr r (new ≡ old)) is same)

-- the channel of this text was added
abbrev AddsChannel : (number : ℕ) (text buffer : List ℕ) (id mask sub_bytes : ℕ) (old new : Declared) → Type 0
AddsChannel number text buffer id mask sub_bytes old new =
    (read : NamePattern) × IsPatternRead text (is_limited sub_bytes) (Some read) × (new ≡ with_channel old number read buffer id mask sub_bytes)

pub channel_so : (refusal : Option SetupRefusal) (number : ℕ) (text buffer : List ℕ) (id mask sub_bytes : ℕ) (old new : Declared) (result : Result (Unit {0}) SetupRefusal) (reply : Reply) → result ≡ ok_unless refusal
    → OnOk result (AddsChannel number text buffer id mask sub_bytes old new) → OnErr result (new ≡ old) → reply ≡ setup_reply result
    → TakesChannel refusal number text buffer id mask sub_bytes old reply new
channel_so None number text buffer id mask sub_bytes old new result reply is added same replied =
    let here = subst (λ (r : Result (Unit {0}) SetupRefusal). OnOk r (AddsChannel number text buffer id mask sub_bytes old new)) is added in
    (here.0, here.1, replied ∙ ap setup_reply is, here.2)
channel_so (Some refusal) number text buffer id mask sub_bytes old new result reply is added same replied =
    (replied ∙ ap setup_reply is, subst (λ (r : Result (Unit {0}) SetupRefusal). OnErr r (new ≡ old)) is same)
