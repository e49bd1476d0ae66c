use Rattle.std.proofs.Common.{◌≡◌, ◌∙◌, ◌+◌, ◌<◌, ◌++◌, ◌∷◌, [], ℕ, List, length, length-append, ap, sym, refl, subst, arith}
use Rattle.std.specs.Prelude.{slice_get, Some}
use Rattle.std.proofs.lemmas.Option.{slice_get_read}
use Rattle.turn_lock.specs.declared.roster.Passes.{Passes}
use Rattle.buffer_lock.specs.SharedBuffers.{lock_of}
use Rattle.session_setup.specs.declared.declared.BufferDeclared.{BufferDeclared}
use Rattle.session_objects.specs.declared.objects.SessionBuffer.{SessionBuffer}
use Rattle.session_objects.specs.Rosters.{KeepsFresh}
use Rattle.session_objects.specs.Objects.{IsBufferOf}
use Rattle.session_objects.proofs.ChangeLaws.{each_pushed, both_pushed, some_same}
use Rattle.session_objects.proofs.opening.open_buffers.Goals as goal

pub loop-wanted-preserved : goal.loop-wanted-preserved
loop-wanted-preserved c =
    let inv = c.loop-wanted.invariant in
    let xs : List SessionBuffer = c.loop-wanted.buffers.items in
    let ys = c.loop-wanted.passes.items in
    let x : SessionBuffer = c.in_ok-buffer.buffer in
    let y = c.in_ok-buffer.roster in
    let i : ℕ = c.loop-wanted.wanted-index in
    let below : i < length c.args.declared.now = c.loop-wanted-test.true in
    let items : c.push.new.self.items ≡ xs ++ x ∷ [] = c.in_ok-push.ensures.items in
    let rosters : c.push-in-loop-wanted.new.self.items ≡ ys ++ y ∷ [] = c.in_ok-push-2.ensures.items in
    let many : length xs ≡ i = inv.0 in
    let same : length ys ≡ i = inv.1 in
    let wanted : slice_get c.args.declared.now i ≡ Some c.wanted-item.result = slice_get_read c.args.declared.now (length c.args.declared.now) i c.wanted-item.result refl below c.wanted-item.is in
    let IsOne : ℕ → SessionBuffer → Type 0 = λ m b. (d : BufferDeclared) → slice_get c.args.declared.now m ≡ Some d → IsBufferOf d c.args.callers b in
    let Keeps : SessionBuffer → Passes _ _ _ _ → Type 0 = λ b roster. KeepsFresh [] (lock_of b.shared) roster in
    let At : List SessionBuffer → Type 0 = λ bs. (number : ℕ) → (buffer : SessionBuffer) → slice_get bs number ≡ Some buffer → IsOne number buffer in
    let one : IsOne (length xs) x = λ d there.
    let P : BufferDeclared → Type 0 = λ z. IsBufferOf z c.args.callers x in
    let Q : ℕ → Type 0 = λ m. slice_get c.args.declared.now m ≡ Some d in
    subst P (some_same c.wanted-item.result d (sym wanted ∙ subst Q many there)) c.in_ok-buffer.ensures.buffer in (
      (ap length items ∙ length-append xs (x ∷ []) ∙ (let e : length xs + 1 ≡ i + 1 = omega arith in e)),
      (ap length rosters ∙ length-append ys (y ∷ []) ∙ (let e : length ys + 1 ≡ i + 1 = omega arith in e)),
      subst At (sym items) (each_pushed IsOne xs x inv.2 one),
      (λ number buffer at roster there. both_pushed Keeps xs ys x y (same ∙ sym many) inv.3 c.in_ok-buffer.ensures.passes number buffer
          (ap (λ (bs : List SessionBuffer). slice_get bs number) (sym items) ∙ at) roster
          (ap (λ rs. slice_get rs number) (sym rosters) ∙ there)),
    )

pub bounds-declared-wanted-index : goal.bounds-declared-wanted-index
bounds-declared-wanted-index c = c.loop-wanted-test.true
