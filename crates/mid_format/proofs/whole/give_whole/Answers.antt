use Rattle.std.proofs.Common.{◌≡◌, ◌∙◌, ◌≤◌, ◌^◌, ◌++◌, ◌∷◌, [], ℕ, List, length, take, drop, ap, sym, subst}
use Rattle.event.specs.Events.{all_encoded}
use Rattle.event.specs.Headers.{event_of}
use Rattle.mid_format.proofs.AtHand.{may_take}
use Rattle.mid_format.proofs.whole.give_whole.Goals as goal

pub take-requires-clause-room : goal.take-requires-clause-room
take-requires-clause-room g c =
    let so_far = c.requires.so_far in
    let h = c.args.header.now in
    let body : c.split_at-2.result.0.now ≡ take h.data_size (drop 16 (g.S.Source.told c.args.source.now).at_hand) =
    ◌∙◌ {b = take h.data_size c.split_at.result.1.now} c.split_at-2.ensures.front (ap (λ (l : List ℕ). take h.data_size l) (c.split_at.ensures.back ∙ ap (λ (l : List ℕ). drop 16 l) c.peek.ensures)) in
    record {
      events = so_far.before ++ so_far.events;
      taken = so_far.taken;
      within = subst (λ (b : List ℕ). length (all_encoded ((so_far.before ++ so_far.events) ++ event_of h b ∷ [])) ≤ 2 ^ 62) (sym body)
          (may_take c.args.progress.now _ h c.requires.whole so_far.start so_far.first _ so_far.before so_far.events so_far.few so_far.read);
    }
