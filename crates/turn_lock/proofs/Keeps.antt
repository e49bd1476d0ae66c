-- Each kind of step keeps the lock's rule, and tells what it is to tell.
use Rattle.std.proofs.Common.{◌≡◌, ◌≢◌, ◌⊎◌, ℕ, zero, suc, ◌+◌, ◌%◌, ◌^◌, ◌<◌, ◌≤◌, eqb, cond, Bool, true, false, List, [], ◌∷◌, ◌++◌, length, get_or, set, sym, refl, ap, ◌∙◌, subst, inl, inr, ⊎_elim, arith, Option, Some, None, length-set, length-append, get_or-set_other, get_or-set_same, eq-eqb, ne_eqb}
use Rattle.std.specs.Prelude.{All}
use Rattle.std.proofs.lemmas.List.{append-nil, append_assoc}
use Rattle.std.proofs.lemmas.List.Elements.{All-nil, All-append, All-push, All-weaker}
use Rattle.std.proofs.lemmas.Option.{none-some, same_Some}
use Rattle.std.proofs.Math.Nat.{mod-add-mod}
use mathlib.Core.List.{IsPrefix}
use mathlib.Core.Logic.{dite}
use mathlib.Core.Option.{none, some, some-injective, some-ne-none}
use native.Mathlib.Decide.{ℕ_discrete, dec_le}
use lib.ListN.{get_elem?}
use lib.Seq.{set-get_or}
use prog.Atomic.{either}
use Rattle.atomic_table.specs.Table.{State, Me, keeps, takes, gives, stepped, Allows, Splits, Joins, Seen}
use Rattle.atomic_table.specs.Table as table
use Rattle.atomic_table.proofs.Lists.{at_set, set_here, set_else, at_longer}
use Rattle.turn_lock.specs.declared.rule.View.{View}
use Rattle.daq_types.specs.Callers.{entries_by}
use Rattle.turn_lock.specs.History.{Leads, IsLastBy, HadTurnThen}
use Rattle.turn_lock.specs.Views.{first_view, holding_view, idle_view, missed_view, counted_view, giver_view, given_view, note_view, joined_view, spent_view, pair_of, longer, takes_turn, counts, Counted, Missed, frees, looks, Agrees, Settles}
use Rattle.turn_lock.specs.Protocol.{IsPaired, IsFoundRightly, Fits, IsLaid, Holds, IsLock}
use Rattle.turn_lock.proofs.LockLaws.{prefix_self, prefix_more, longer_along, longer_first, longer_second, at_within, at_end, entries_added, rest_none, entries_between, none_before, whole_history, leads_further, pair_stands}

module _ {S D E : Type 0} (state_of : S → D) (step : D → ℕ → E → D → Type 0) (first : D) (passes : ℕ) where
  abbrev V : Type 0
  V = View D E

  abbrev St : Type 0
  St = State (Option S) V

  abbrev Seat : Type 0
  Seat = Me (Option S) V

  abbrev History : Type 0
  History = List (ℕ × E)

  abbrev Rule : St → Type 0
  Rule = IsLock state_of step first passes

  abbrev Fit : History → ℕ → (ℕ → ℕ) → ℕ → ℕ → V → Type 0
  Fit = Fits step first passes

  abbrev turn : St → ℕ
  turn s = get_or s.words 0 0

  seats_stay : (K : ℕ → V → Type 0) (vs : List V) (id : ℕ) (w : V) → K id w → ((j : ℕ) (v : V) → j ≢ id → get_elem? vs j ≡ some v → K j v)
      → (j : ℕ) (v : V) → get_elem? (set vs id w) j ≡ some v → K j v
  seats_stay K vs id w mine others j v e = ⊎_elim (λ (t : (j ≡ id) × (w ≡ v)). subst (λ (x : ℕ × V). K x.0 x.1) (λ i. (sym t.0 i, t.1 i)) mine)
      (λ (t : (j ≢ id) × (get_elem? vs j ≡ some v)). others j v t.0 t.1) (at_set vs id j w v e)

  -- two seats at one place of the list are one
  same_seat : (vs : List V) (j k : ℕ) (v w : V) → j ≡ k → get_elem? vs j ≡ some v → get_elem? vs k ≡ some w → v ≡ w
  same_seat vs j k v w e a b = some-injective v w (sym a ∙ (ap (get_elem? vs) e ∙ b))

  -- two seats with one number are one
  one_seat : (s : St) (r : Rule s) (n j k : ℕ) (v w : V) → get_elem? s.views j ≡ some v → get_elem? s.views k ≡ some w → v.number ≡ Some n → w.number ≡ Some n → j ≡ k
  one_seat s r n j k v w a b p q = sym ((r.each j v a).numbered n p).1 ∙ ((r.each k w b).numbered n q).1

  -- only the seat with the turn's number holds
  one_holder : (s : St) (r : Rule s) (id j : ℕ) (v w : V) (d : D) → get_elem? s.views id ≡ some v → v.number ≡ Some (turn s) → get_elem? s.views j ≡ some w → w.kept ≡ Some d → j ≡ id
  one_holder s r id j v w d at number there kept = one_seat s r (turn s) j id w v there at ((r.each j w there).holding d kept).0 number

  -- where the turn is free, no seat holds
  none_holds : (s : St) (r : Rule s) (j : ℕ) (w : V) (d : D) → turn s ≡ 256 → get_elem? s.views j ≡ some w → w.kept ≡ Some d → ⊥
  none_holds s r j w d free there kept = let h = ((r.each j w there).numbered (turn s) ((r.each j w there).holding d kept).0).0 in let few = r.few in omega arith

  holder_stays : (vs : List V) (t id : ℕ) (v w : V) → get_elem? vs id ≡ some v → w.number ≡ v.number → w.kept ≡ v.kept → (j : ℕ) → Holds vs t j → Holds (set vs id w) t j
  holder_stays vs t id v w at number kept j h = dite (ℕ_discrete j id)
      (λ e. let same = same_seat vs id j v h.0 (sym e) at h.2 in
      (w, h.1, ap (get_elem? (set vs id w)) e ∙ set_here vs id w (at_within vs id v at), (number ∙ (ap (λ (x : V). x.number) same ∙ h.3.0), kept ∙ (ap (λ (x : V). x.kept) same ∙ h.3.1))))
      (λ other. (h.0, h.1, set_else vs id j w other ∙ h.2, h.3))

  not_counted : false ≡ true → ⊥
  not_counted e = grind arith

  -- What was found rightly is so still: where the turn is taken that was free;
  found_free : (h : History) (t t' : ℕ) → t ≡ 256 → (x : ℕ × History) → IsFoundRightly h t x → IsFoundRightly h t' x
  found_free h t t' free x = ⊎_elim (λ (a : HadTurnThen h x). inl a) (λ (a : (t ≢ 256) × (x ≡ (t, h))). absurd (a.0 free))

  -- where it is freed behind an entry of the number that had it;
  found_freed : (h : History) (t : ℕ) → IsLastBy t h → (x : ℕ × History) → IsFoundRightly h t x → HadTurnThen h x
  found_freed h t last x = ⊎_elim (λ (a : HadTurnThen h x). a) (λ (a : (t ≢ 256) × (x ≡ (t, h))). subst (HadTurnThen h) (sym a.1) record { begins = prefix_self h; beside = inl last })

  -- and where that number counts.
  found_counted : (h : History) (n : ℕ) (e : E) (x : ℕ × History) → IsFoundRightly h n x → HadTurnThen (h ++ (n, e) ∷ []) x
  found_counted h n e x = ⊎_elim
      (λ (a : HadTurnThen h x). record {
        begins = prefix_more x.1 h ((n, e) ∷ []) a.begins;
        beside = ⊎_elim (λ b. inl b) (λ b. inr (b.0, b.1 ++ (n, e) ∷ [], ap (λ (z : History). z ++ (n, e) ∷ []) b.2 ∙ append_assoc x.1 ((x.0, b.0) ∷ b.1) ((n, e) ∷ []))) a.beside;
      })
      (λ (a : (n ≢ 256) × (x ≡ (n, h))). subst (HadTurnThen (h ++ (n, e) ∷ [])) (sym a.1) record { begins = ((n, e) ∷ [], refl); beside = inr (e, [], refl) })

  -- a view fits on where it alone changes what it keeps or found, or the turn changes
  refit : (h : History) (g : ℕ) (o : ℕ → ℕ) (t t' j : ℕ) (v : V) (kept : Option D) (counted : Bool) (found : List (ℕ × History)) → Fit h g o t j v
      → ((d : D) → kept ≡ Some d → (v.number ≡ Some t') × Leads step first h d) → (counted ≡ true → (v.number ≡ Some t') × ((v.seen ≡ h) × IsLastBy t' h)) → All (IsFoundRightly h t') found
      → Fit h g o t' j (record v { kept = kept; counted = counted; found = found })
  refit h g o t t' j v kept counted found f holding counts_on found_on = record {
    start = f.start;
    passes = f.passes;
    seen = f.seen;
    met = f.met;
    numbered = f.numbered;
    answers = f.answers;
    silent = f.silent;
    whole = f.whole;
    holding = holding;
    counted = counts_on;
    found = found_on;
    next = f.next;
    pairs = f.pairs;
  }

  -- a view fits on where the numbers given and their seats change, and it answers for the same numbers
  renumbered : (h : History) (g g' : ℕ) (o o' : ℕ → ℕ) (t j : ℕ) (v : V) (next : ℕ) → ((n : ℕ) → n < g → o n ≡ j → (n < g') × (o' n ≡ j)) → ((n : ℕ) → n < g' → o' n ≡ j → (n < g) × (o n ≡ j))
      → (v.number ≡ Some 0 → next ≡ g') → Fit h g o t j v → Fit h g' o' t j (record v { next = next })
  renumbered h g g' o o' t j v next to back up f = record {
    start = f.start;
    passes = f.passes;
    seen = f.seen;
    met = f.met;
    numbered = λ n e. let m = f.numbered n e in to n m.0 m.1;
    answers = λ n l e. let m = back n l e in f.answers n m.0 m.1;
    silent = λ n l e. let m = back n l e in f.silent n m.0 m.1;
    whole = f.whole;
    holding = f.holding;
    counted = f.counted;
    found = f.found;
    next = up;
    pairs = λ k p e. let m = f.pairs k p e in let a = to p.0 m.1.1.0 m.1.1.1.0 in (m.0, (m.1.0, (a.0, (a.1, m.1.1.1.1))));
  }

  -- a step that changes no word
  unmoved : (s : St) (r : Rule s) (i id : ℕ) (cs : List (ℕ × Option S)) (v w : V) → get_elem? s.views id ≡ some v → Fit r.history r.given r.owner (turn s) id w → w.number ≡ v.number → w.kept ≡ v.kept
      → Rule (stepped s i (get_or s.words i 0) id cs w keeps)
  unmoved s r i id cs v w at fit number kept = subst (λ (ws : List ℕ). Rule record { words = ws; homes = s.homes; views = set s.views id w }) (sym (set-get_or s.words i 0)) record {
    history = r.history;
    given = r.given;
    some_given = r.some_given;
    within = r.within;
    few = r.few;
    owner = r.owner;
    owned = λ n l. subst (λ z. r.owner n < z) (sym (length-set s.views id w)) (r.owned n l);
    known = r.known;
    two = r.two;
    count = r.count;
    each = seats_stay (Fit r.history r.given r.owner (turn s)) s.views id w fit (λ j x _ e. r.each j x e);
    free = r.free;
    busy = λ b. let h = r.busy b in (h.0, holder_stays s.views (turn s) id v w at number kept h.0 h.1);
  }

  below_or : (n m : ℕ) → (n < m) ⊎ (m ≤ n)
  below_or n m = dite (dec_le m n) (λ l. inr l) (λ l. inl (omega arith))

  -- take
  takes_hit : (s : St) (r : Rule s) (id n : ℕ) (v : V) (cs : List (ℕ × Option S)) (y : S) → get_elem? s.views id ≡ some v → v.number ≡ Some n → turn s ≡ 256 → Leads step first r.history (state_of y)
      → Rule (stepped s 0 n id cs (holding_view v (state_of y)) (takes 0 (Some y)))
  takes_hit s r id n v cs y at number free leads = let w : V = holding_view v (state_of y) in let two = r.two in let few = r.few in
      let here : get_or (set s.words 0 n) 0 0 ≡ n = get_or-set_same s.words 0 n 0 (omega arith) in let fit = r.each id v at in let low = (fit.numbered n number).0 in
      let taken_on : (found : List (ℕ × History)) → All (IsFoundRightly r.history (turn s)) found → All (IsFoundRightly r.history n) found =
      All-weaker (IsFoundRightly r.history (turn s)) (IsFoundRightly r.history n) (found_free r.history (turn s) n free) in record {
        history = r.history;
        given = r.given;
        some_given = r.some_given;
        within = r.within;
        few = r.few;
        owner = r.owner;
        owned = λ n l. subst (λ z. r.owner n < z) (sym (length-set s.views id w)) (r.owned n l);
        known = r.known;
        two = length-set s.words 0 n ∙ two;
        count = get_or-set_other s.words 0 1 n 0 (λ e. omega arith) ∙ r.count;
        each = subst (λ (z : ℕ). (j : ℕ) (x : V) → get_elem? (set s.views id w) j ≡ some x → Fit r.history r.given r.owner z j x) (sym here)
            (seats_stay (Fit r.history r.given r.owner n) s.views id w
            (refit r.history r.given r.owner (turn s) n id v (Some (state_of y)) false v.found fit (λ d e. (number, subst (Leads step first r.history) (same_Some _ _ e) leads)) (λ e. absurd (not_counted e)) (taken_on v.found fit.found))
            (λ j x _ there. let fits = r.each j x there in refit r.history r.given r.owner (turn s) n j x x.kept x.counted x.found fits (λ d e. absurd (none_holds s r j x d free there e))
            (λ e. absurd (let given = (fits.numbered (turn s) (fits.counted e).0).0 in omega arith)) (taken_on x.found fits.found)));
        free = λ e. absurd (let x : n ≡ 256 = sym here ∙ e in omega arith);
        busy = λ _. (id, (w, state_of y, set_here s.views id w (at_within s.views id v at), (number ∙ ap (λ z. Some z) (sym here), refl)));
      }

  pub takes_kept : (slots id : ℕ) (me : Seat) (n : ℕ) → me.0.number ≡ Some n → me.0.kept ≡ None
      → Allows Rule slots id me 0 (λ x. either (eqb x 256) n x) (takes_turn state_of (table.step slots 0 256 n none) me)
  takes_kept slots id me n number idle s r _ at _ = let x : ℕ = turn s in let v : V = me.0 in dite (ℕ_discrete x 256)
      (λ hit. let f = r.free hit in let w : V = holding_view v (state_of f.0) in (
        w,
        takes 0 (Some f.0),
        f.1,
        subst (λ b. Rule (stepped s 0 (either b n x) id me.1 w (takes 0 (Some f.0)))) (sym (eq-eqb x 256 hit)) (takes_hit s r id n v me.1 f.0 at number hit f.2),
        ((λ _. (f.0, refl)), λ miss. absurd (miss hit)),
      ))
      (λ miss. let h = r.busy miss in let fit = r.each id v at in let others : History = fit.seen.0 in let w : V = missed_view v x (v.seen ++ others) in let held = (r.each h.0 h.1.0 h.1.2).numbered x h.1.3.0 in let few = r.few in (
        w,
        keeps,
        tt,
        subst (λ b. Rule (stepped s 0 (either b n x) id me.1 w keeps)) (sym (ne_eqb x 256 miss))
            (unmoved s r 0 id me.1 v w at
            (refit r.history r.given r.owner x x id v v.kept v.counted w.found fit fit.holding fit.counted (All-push (IsFoundRightly r.history x) v.found (x, v.seen ++ others) fit.found (inr (miss, ap (λ (z : History). (x, z)) fit.seen.1))))
            refl refl),
        (
          (λ hit. absurd (miss hit)),
          λ _. (
            omega arith,
            (λ own. none-some h.1.1 (sym idle ∙ (ap (λ (z : V). z.kept) (same_seat s.views id h.0 v h.1.0 (one_seat s r x id h.0 v h.1.0 at h.1.2 own h.1.3.0) at h.1.2) ∙ h.1.3.1))),
            (λ n n_is. let all = fit.passes n n_is in let within = r.within in omega arith),
            (record { others = others; foreign = λ m is. let own = fit.numbered m is in rest_none m v.seen others (ap (entries_by m) fit.seen.1 ∙ fit.silent m own.0 own.1); view = refl }, refl),
          ),
        ),
      ))

  -- count
  counted_on : (h : History) (n : ℕ) (e : E) (found : List (ℕ × History)) → All (IsFoundRightly h n) found → All (IsFoundRightly (h ++ (n, e) ∷ []) n) found
  counted_on h n e = All-weaker (IsFoundRightly h n) (IsFoundRightly (h ++ (n, e) ∷ []) n) (λ x a. inl (found_counted h n e x a))

  counts_fit : (h : History) (g : ℕ) (o : ℕ → ℕ) (n j : ℕ) (e : E) (v : V) → (o n ≢ j) → (v.number ≢ Some n) → Fit h g o n j v → Fit (h ++ (n, e) ∷ []) g o n j v
  counts_fit h g o n j e v apart not_mine f = let same : (m : ℕ) → o m ≡ j → entries_by m h ≡ entries_by m (h ++ (n, e) ∷ []) = λ m is. sym (entries_added n m e h (λ q. apart (ap o (sym q) ∙ is))) in record {
    start = f.start;
    passes = f.passes;
    seen = prefix_more v.seen h ((n, e) ∷ []) f.seen;
    met = λ k l at. prefix_more l h ((n, e) ∷ []) (f.met k l at);
    numbered = f.numbered;
    answers = f.answers;
    silent = λ m l is. sym (same m is) ∙ f.silent m l is;
    whole = λ m l is w. sym (same m (f.numbered m is).1) ∙ f.whole m l is w;
    holding = λ d e. absurd (not_mine (f.holding d e).0);
    counted = λ q. absurd (not_mine (f.counted q).0);
    found = counted_on h n e v.found f.found;
    next = f.next;
    pairs = λ k p at. let m = f.pairs k p at in (m.0, (m.1.0, (m.1.1.0, (m.1.1.1.0, m.1.1.1.1 ∙ same p.0 m.1.1.1.0))));
  }

  counts_mine : (h : History) (g : ℕ) (o : ℕ → ℕ) (n id : ℕ) (e : E) (v : V) (d : D) → v.number ≡ Some n → Leads step first (h ++ (n, e) ∷ []) d → Fit h g o n id v → Fit (h ++ (n, e) ∷ []) g o n id (counted_view v (h ++ (n, e) ∷ []) d)
  counts_mine h g o n id e v d number leads f = record {
    start = f.start;
    passes = f.passes;
    seen = prefix_self (h ++ (n, e) ∷ []);
    met = λ k l at. prefix_more l h ((n, e) ∷ []) (f.met k l at);
    numbered = f.numbered;
    answers = f.answers;
    silent = λ m l is. refl;
    whole = λ m l is w. absurd (none-some l w);
    holding = λ x is. (number, subst (Leads step first (h ++ (n, e) ∷ [])) (same_Some _ _ is) leads);
    counted = λ _. (number, (refl, (h, e, refl)));
    found = counted_on h n e v.found f.found;
    next = f.next;
    pairs = λ k p at. let m = f.pairs k p at in let zero_is : 0 ≡ n = same_Some _ _ (sym m.0 ∙ number) in
        (m.0, (m.1.0, (m.1.1.0, (m.1.1.1.0, m.1.1.1.1 ∙ sym (entries_added n p.0 e h (λ q. let low = m.1.0 in omega arith))))));
  }

  counts_rule : (s : St) (r : Rule s) (id n : ℕ) (e : E) (v : V) (c d : D) (cs : List (ℕ × Option S)) (h : History) → r.history ≡ h → get_elem? s.views id ≡ some v → v.number ≡ Some n → v.kept ≡ Some c → step c n e d
      → Rule (stepped s 1 ((get_or s.words 1 0 + 1) % 2 ^ 64) id cs (counted_view v (h ++ (n, e) ∷ []) d) keeps)
  counts_rule s r id n e v c d cs h is at number kept go = let h' : History = h ++ (n, e) ∷ [] in let w : V = counted_view v h' d in let two = r.two in let few = r.few in let x : ℕ = (get_or s.words 1 0 + 1) % 2 ^ 64 in
      let fit : Fit h r.given r.owner (turn s) id v = subst (λ z. Fit z r.given r.owner (turn s) id v) is (r.each id v at) in
      let mine : turn s ≡ n = same_Some _ _ (sym (fit.holding c kept).0 ∙ number) in
      let low : n < r.given = (fit.numbered n number).0 in let own : r.owner n ≡ id = (fit.numbered n number).1 in
      let leads : Leads step first h' d = leads_further step first c d h n e (fit.holding c kept).1 go in
      let still : get_or (set s.words 1 x) 0 0 ≡ turn s = get_or-set_other s.words 1 0 x 0 (λ e. omega arith) in record {
        history = h';
        given = r.given;
        some_given = r.some_given;
        within = r.within;
        few = r.few;
        owner = r.owner;
        owned = λ m l. subst (λ z. r.owner m < z) (sym (length-set s.views id w)) (r.owned m l);
        known = λ m l. entries_added n m e h (λ q. omega arith) ∙ subst (λ (z : History). entries_by m z ≡ []) is (r.known m l);
        two = length-set s.words 1 x ∙ two;
        count = get_or-set_same s.words 1 x 0 (omega arith) ∙ (ap (λ (z : ℕ). (z + 1) % 2 ^ 64) (r.count ∙ ap (λ (z : History). length z % 2 ^ 64) is) ∙ (mod-add-mod (length h) (2 ^ 64) 1 ∙ ap (λ (z : ℕ). z % 2 ^ 64) (sym (length-append h ((n, e) ∷ [])))));
        each = subst (λ (z : ℕ). (j : ℕ) (y : V) → get_elem? (set s.views id w) j ≡ some y → Fit h' r.given r.owner z j y) (sym (still ∙ mine))
            (seats_stay (Fit h' r.given r.owner n) s.views id w (counts_mine h r.given r.owner n id e v d number leads (subst (λ z. Fit h r.given r.owner z id v) mine fit))
            (λ j y other there. counts_fit h r.given r.owner n j e y (λ q. other (sym q ∙ own)) (λ q. other (one_seat s r n j id y v there at q number))
            (subst (λ (z : ℕ × History). Fit z.1 r.given r.owner z.0 j y) (λ i. (mine i, is i)) (r.each j y there))));
        free = λ q. absurd (let f : n ≡ 256 = sym mine ∙ (sym still ∙ q) in omega arith);
        busy = λ _. (id, (w, d, set_here s.views id w (at_within s.views id v at), (number ∙ ap (λ z. Some z) (sym (still ∙ mine)), refl)));
      }

  pub counts_kept : (slots id : ℕ) (me : Seat) (n : ℕ) (entry : Option E) (last : Option D) (e : E) (c d : D) → me.0.number ≡ Some n → me.0.kept ≡ Some c → entry ≡ Some e → last ≡ Some d → step c n e d
      → Allows Rule slots id me 1 (λ x. (x + 1) % 2 ^ 64) (counts step entry last (table.step slots 1 1 0 none) me)
  counts_kept slots id me n entry last e c d number kept entry_is last_is go s r _ at _ = let v : V = me.0 in let fit = r.each id v at in let others : History = fit.seen.0 in let h : History = v.seen ++ others in
      let is : r.history ≡ h = sym fit.seen.1 in let w : V = counted_view v (h ++ (n, e) ∷ []) d in let own = fit.numbered n number in
      let told : Counted step n e d v w = record {
        others = others;
        foreign = rest_none n v.seen others (ap (entries_by n) fit.seen.1 ∙ fit.silent n own.0 own.1);
        view = refl;
        led = λ x y x_is y_is. let held : c ≡ y = same_Some _ _ (sym kept ∙ y_is) in (
          subst (λ (z : D × (History × D)). Leads step z.0 z.1.0 z.1.1) (λ i. (sym (fit.start x x_is) i, (is i, held i))) (fit.holding c kept).1,
          subst (λ z. step z n e d) held go,
        );
      } in (
        w,
        keeps,
        tt,
        counts_rule s r id n e v c d me.1 h is at number kept go,
        λ n' e' d' number' entry' last'. (
          subst (λ (z : ℕ × (E × D)). Counted step z.0 z.1.0 z.1.1 v w)
              (λ i. (same_Some n n' (sym number ∙ number') i, (same_Some e e' (sym entry_is ∙ entry') i, same_Some d d' (sym last_is ∙ last') i))) told,
          refl,
        ),
      )

  -- free
  pub frees_kept : (slots id : ℕ) (me : Seat) (d : D) (y : S) → slots ≡ 1 → me.0.kept ≡ Some d → me.0.counted ≡ true → state_of y ≡ d → me.1 ≡ (0, Some y) ∷ []
      → Allows Rule slots id me 0 (λ _. 256) (frees (table.step slots 0 256 0 none) me)
  frees_kept slots id me d y one kept counted same out s r wide at _ = let v : V = me.0 in let w : V = idle_view v in let fit = r.each id v at in let two = r.two in let held = fit.holding d kept in
      let freed_on : (found : List (ℕ × History)) → All (IsFoundRightly r.history (turn s)) found → All (IsFoundRightly r.history 256) found =
      All-weaker (IsFoundRightly r.history (turn s)) (IsFoundRightly r.history 256) (λ x a. inl (found_freed r.history (turn s) (fit.counted counted).1.1 x a)) in
      let here : get_or (set s.words 0 256) 0 0 ≡ 256 = get_or-set_same s.words 0 256 0 (omega arith) in (
        w,
        gives,
        tt,
        subst (λ cs. Rule (stepped s 0 256 id cs w gives)) (sym out) record {
          history = r.history;
          given = r.given;
          some_given = r.some_given;
          within = r.within;
          few = r.few;
          owner = r.owner;
          owned = λ n l. subst (λ z. r.owner n < z) (sym (length-set s.views id w)) (r.owned n l);
          known = r.known;
          two = length-set s.words 0 256 ∙ two;
          count = get_or-set_other s.words 0 1 256 0 (λ e. omega arith) ∙ r.count;
          each = subst (λ (z : ℕ). (j : ℕ) (x : V) → get_elem? (set s.views id w) j ≡ some x → Fit r.history r.given r.owner z j x) (sym here)
              (seats_stay (Fit r.history r.given r.owner 256) s.views id w
              (refit r.history r.given r.owner (turn s) 256 id v None false v.found fit (λ x e. absurd (none-some x e)) (λ e. absurd (not_counted e)) (freed_on v.found fit.found))
              (λ j x other there. let fits = r.each j x there in refit r.history r.given r.owner (turn s) 256 j x x.kept x.counted x.found fits (λ z e. absurd (other (one_holder s r id j v x z at held.0 there e)))
              (λ e. absurd (other (one_seat s r (turn s) j id x v there at (fits.counted e).0 held.0))) (freed_on x.found fits.found)));
          free = λ _. (y, set_here s.homes 0 (some (Some y)) (omega arith), subst (Leads step first r.history) (sym same) held.1);
          busy = λ b. absurd (b here);
        },
        ap (λ (cs : List (ℕ × Option S)). (w, table.rest cs)) out,
      )

  -- look
  pub looks_kept : (slots id : ℕ) (me : Seat) → Allows Rule slots id me 1 (λ x. x) (looks (table.step slots 1 0 0 none) me)
  looks_kept slots id me s r _ at _ = let v : V = me.0 in let fit = r.each id v at in (
    v,
    keeps,
    tt,
    unmoved s r 1 id me.1 v v at fit refl refl,
    (
      refl,
      record { history = r.history; seen = fit.seen; met = fit.met; own = λ n is. let m = fit.numbered n is in fit.silent n m.0 m.1; whole = fit.whole },
    ),
  )

  -- the lock as it is made
  no_more : {A : Type 0} (k : ℕ) (a : A) → get_elem? [] k ≡ some a → ⊥
  no_more k a e = some-ne-none a (sym e)

  opens_fit : (v : V) → v ≡ first_view first passes → Fit [] 1 (λ _. 0) 256 0 v
  opens_fit v is = subst (Fit [] 1 (λ _. 0) 256 0) (sym is) record {
    start = λ x e. sym (same_Some _ _ e);
    passes = λ n e. sym (same_Some _ _ e);
    seen = ([], refl);
    met = λ k l at. absurd (no_more k l at);
    numbered = λ n e. let z : 0 ≡ n = same_Some _ _ e in (omega arith, refl);
    answers = λ n l e. let z : 0 ≡ n = omega arith in inl (ap (λ k. Some k) z);
    silent = λ n l e. refl;
    whole = λ n l e w. absurd (none-some l w);
    holding = λ d e. absurd (none-some d e);
    counted = λ e. absurd (not_counted e);
    found = All-nil _;
    next = λ e. refl;
    pairs = λ k p at. absurd (no_more k p at);
  }

  opens_each : (j : ℕ) (v : V) → get_elem? (first_view first passes ∷ []) j ≡ some v → Fit [] 1 (λ _. 0) 256 j v
  opens_each zero v e = opens_fit v (sym (some-injective (first_view first passes) v e))
  opens_each (suc j) v e = absurd (no_more j v e)

  pub opens : (y : S) → state_of y ≡ first → 0 < passes → Rule (table.opening (256 ∷ 0 ∷ []) (Some y ∷ []) (first_view first passes))
  opens y is some_passes = record {
    history = [];
    given = 1;
    some_given = omega arith;
    within = omega arith;
    few = omega arith;
    owner = λ _. 0;
    owned = λ n l. omega arith;
    known = λ n l. refl;
    two = refl;
    count = refl;
    each = opens_each;
    free = λ _. (y, refl, sym is);
    busy = λ b. absurd (b refl);
  }

  -- split
  arrived : (h : History) (g : ℕ) (o : ℕ → ℕ) (t : ℕ) (vs : List V) (w : V) → ((j : ℕ) (v : V) → get_elem? vs j ≡ some v → Fit h g o t j v) → Fit h g o t (length vs) w
      → (j : ℕ) (v : V) → get_elem? (vs ++ w ∷ []) j ≡ some v → Fit h g o t j v
  arrived h g o t vs w old new j v e = ⊎_elim (λ (a : get_elem? vs j ≡ some v). old j v a)
      (λ (a : (j ≡ length vs) × (w ≡ v)). subst (λ (x : ℕ × V). Fit h g o t x.0 x.1) (λ i. (sym a.0 i, a.1 i)) new) (at_end vs w v j e)

  -- one seat more, which holds nothing
  grown : (s : St) (r : Rule s) (id : ℕ) (v left right : V) (g : ℕ) (o : ℕ → ℕ) → get_elem? s.views id ≡ some v → left.number ≡ v.number → left.kept ≡ v.kept → 0 < g → g ≤ passes → g ≤ 256
      → ((n : ℕ) → n < g → o n < length s.views + 1) → ((n : ℕ) → g ≤ n → entries_by n r.history ≡ [])
      → ((j : ℕ) (x : V) → get_elem? (set s.views id left) j ≡ some x → Fit r.history g o (turn s) j x) → Fit r.history g o (turn s) (length (set s.views id left)) right
      → Rule record { words = s.words; homes = s.homes; views = set s.views id left ++ right ∷ [] }
  grown s r id v left right g o at number kept some_given within few owned known old new = record {
    history = r.history;
    given = g;
    some_given = some_given;
    within = within;
    few = few;
    owner = o;
    owned = λ n l. subst (λ z. o n < z) (sym (length-append (set s.views id left) (right ∷ []) ∙ ap (λ z. z + 1) (length-set s.views id left))) (owned n l);
    known = known;
    two = r.two;
    count = r.count;
    each = arrived r.history g o (turn s) (set s.views id left) right old new;
    free = r.free;
    busy = λ b. let h = r.busy b in let k = holder_stays s.views (turn s) id v left at number kept h.0 h.1 in
        (h.0, (k.0, k.1, at_longer (set s.views id left) (right ∷ []) h.0 k.0 k.2, k.3));
  }

  pub splits_note : (id : ℕ) (v : V) → Splits Rule id v v (note_view v)
  splits_note id v s r at = let fit = r.each id v at in let size = length-set s.views id v in
      grown s r id v v (note_view v) r.given r.owner at refl refl r.some_given r.within r.few (λ n l. let m = r.owned n l in omega arith) r.known
      (seats_stay (Fit r.history r.given r.owner (turn s)) s.views id v fit (λ j x _ e. r.each j x e))
      record {
        start = fit.start;
        passes = fit.passes;
        seen = fit.seen;
        met = λ k l e. absurd (no_more k l e);
        numbered = λ n e. absurd (none-some n e);
        answers = λ n l e. absurd (let m = r.owned n l in omega arith);
        silent = λ n l e. absurd (let m = r.owned n l in omega arith);
        whole = λ n l e. absurd (none-some n e);
        holding = λ d e. absurd (none-some d e);
        next = λ e. absurd (none-some 0 e);
        counted = λ e. absurd (not_counted e);
        found = All-nil _;
        pairs = λ k p e. absurd (no_more k p e);
      }

  -- the seat k answers for g, and the others answer as before
  abbrev with_owner : (ℕ → ℕ) → ℕ → ℕ → ℕ → ℕ
  with_owner o g k n = cond (eqb n g) k (o n)

  owner_here : (o : ℕ → ℕ) (g k : ℕ) → with_owner o g k g ≡ k
  owner_here o g k = ap (λ b. cond b k (o g)) (eq-eqb g g refl)

  owner_else : (o : ℕ → ℕ) (g k n : ℕ) → n ≢ g → with_owner o g k n ≡ o n
  owner_else o g k n other = ap (λ b. cond b k (o n)) (ne_eqb n g other)

  splits_given : (s : St) (r : Rule s) (id : ℕ) (v : V) (k : ℕ) → k ≡ length s.views → get_elem? s.views id ≡ some v → v.next ≡ r.given → Fit r.history (r.given + 1) (with_owner r.owner r.given k) (turn s) k (given_view v)
  splits_given s r id v k new at next = let g = r.given in let o = r.owner in let fit = r.each id v at in let last : (n : ℕ) → n < g + 1 → with_owner o g k n ≡ k → n ≡ g = λ n l e. dite (ℕ_discrete n g) (λ is. is)
      (λ other. absurd (let m = r.owned n (omega arith) in let q = owner_else o g k n other in omega arith)) in let known = r.known g (omega arith) in record {
        start = fit.start;
        passes = fit.passes;
        seen = fit.seen;
        met = λ k l e. absurd (no_more k l e);
        numbered = λ n e. let is : v.next ≡ n = same_Some _ _ e in (omega arith, subst (λ z. with_owner o g k z ≡ k) (sym next ∙ is) (owner_here o g k));
        answers = λ n l e. inl (ap (λ z. Some z) (next ∙ sym (last n l e)));
        silent = λ n l e. subst (λ z. entries_by z r.history ≡ entries_by z v.seen) (sym (last n l e)) (known ∙ sym (none_before g v.seen r.history fit.seen known));
        whole = λ n l e w. absurd (none-some l w);
        holding = λ d e. absurd (none-some d e);
        next = λ e. absurd (let is : v.next ≡ 0 = same_Some _ _ e in let some_given = r.some_given in omega arith);
        counted = λ e. absurd (not_counted e);
        found = All-nil _;
        pairs = λ k p e. absurd (no_more k p e);
      }

  splits_old : (s : St) (r : Rule s) (k j : ℕ) (x : V) (next : ℕ) → k ≡ length s.views → get_elem? s.views j ≡ some x → (x.number ≡ Some 0 → next ≡ r.given + 1) → Fit r.history (r.given + 1) (with_owner r.owner r.given k) (turn s) j (record x { next = next })
  splits_old s r k j x next new there up = let g = r.given in let o = r.owner in let low = at_within s.views j x there in
      renumbered r.history g (g + 1) o (with_owner o g k) (turn s) j x next
      (λ n l e. (omega arith, owner_else o g k n (λ q. omega arith) ∙ e))
      (λ n l e. dite (ℕ_discrete n g) (λ is. absurd (let q : with_owner o g k n ≡ k = subst (λ z. with_owner o g k z ≡ k) (sym is) (owner_here o g k) in omega arith))
      (λ other. (omega arith, sym (owner_else o g k n other) ∙ e)))
      up (r.each j x there)

  pub splits_pass : (id : ℕ) (v : V) → v.number ≡ Some 0 → v.passes ≡ Some passes → v.next < passes → passes ≤ 256 → Splits Rule id v (giver_view v) (given_view v)
  splits_pass id v zero_is all room few s r at = let fit = r.each id v at in let next : v.next ≡ r.given = fit.next zero_is in let size = length-set s.views id (giver_view v) in let k : ℕ = length (set s.views id (giver_view v)) in
      let g = r.given in let o' = with_owner r.owner g k in
      grown s r id v (giver_view v) (given_view v) (g + 1) o' at refl refl (omega arith) (omega arith) (omega arith)
      (λ n l. dite (ℕ_discrete n g) (λ is. let q : o' n ≡ k = subst (λ z. o' z ≡ k) (sym is) (owner_here r.owner g k) in omega arith)
      (λ other. let q = owner_else r.owner g k n other in let m = r.owned n (omega arith) in omega arith))
      (λ n l. r.known n (omega arith))
      (seats_stay (Fit r.history (g + 1) o' (turn s)) s.views id (giver_view v) (splits_old s r k id v (v.next + 1) size at (λ _. omega arith))
      (λ j x other there. splits_old s r k j x x.next size there (λ is. absurd (other (one_seat s r 0 j id x v there at is zero_is)))))
      (splits_given s r id v k size at next)

  -- join
  abbrev joined_owner : (ℕ → ℕ) → ℕ → ℕ → ℕ → ℕ
  joined_owner o id other n = cond (eqb (o n) other) id (o n)

  owner_moved : (o : ℕ → ℕ) (id other n : ℕ) → o n ≡ other → joined_owner o id other n ≡ id
  owner_moved o id other n e = ap (λ b. cond b id (o n)) (eq-eqb (o n) other e)

  owner_stays : (o : ℕ → ℕ) (id other n : ℕ) → o n ≢ other → joined_owner o id other n ≡ o n
  owner_stays o id other n ne = ap (λ b. cond b id (o n)) (ne_eqb (o n) other ne)

  -- either the other answered for the number, or the one did
  owner_cases : (o : ℕ → ℕ) (id other n j : ℕ) → joined_owner o id other n ≡ j → ((o n ≡ other) × (j ≡ id)) ⊎ ((o n ≢ other) × (o n ≡ j))
  owner_cases o id other n j e = dite (ℕ_discrete (o n) other) (λ is. inl (is, sym e ∙ owner_moved o id other n is)) (λ ne. inr (ne, sym (owner_stays o id other n ne) ∙ e))

  met_joined : (P : History → Type 0) (a b : History) (l : List History) → P a → P b → ((k : ℕ) (x : History) → get_elem? l k ≡ some x → P x) → (k : ℕ) (x : History) → get_elem? (a ∷ b ∷ l) k ≡ some x → P x
  met_joined P a b l pa pb pl zero x e = subst P (some-injective a x e) pa
  met_joined P a b l pa pb pl (suc zero) x e = subst P (some-injective b x e) pb
  met_joined P a b l pa pb pl (suc (suc k)) x e = pl k x e

  pairs_joined : (P : ℕ × List E → Type 0) (l : List (ℕ × List E)) (number : Option ℕ) (seen : History) → ((k : ℕ) (p : ℕ × List E) → get_elem? l k ≡ some p → P p) → ((n : ℕ) → number ≡ Some n → P (n, entries_by n seen))
      → (k : ℕ) (p : ℕ × List E) → get_elem? (l ++ pair_of number seen) k ≡ some p → P p
  pairs_joined P l None seen old new k p e = old k p (subst (λ (z : List (ℕ × List E)). get_elem? z k ≡ some p) (append-nil l) e)
  pairs_joined P l (Some n) seen old new k p e = ⊎_elim (λ (a : get_elem? l k ≡ some p). old k p a) (λ (a : (k ≡ length l) × ((n, entries_by n seen) ≡ p)). subst P a.1 (new n refl)) (at_end l (n, entries_by n seen) p k e)

  module _ (s : St) (r : Rule s) (id other : ℕ) (v w : V) (at : get_elem? s.views id ≡ some v) (apart : other ≢ id) (there : get_elem? s.views other ≡ some w) (asked : (w.number ≡ None) ⊎ (v.number ≡ Some 0)) where
    abbrev o' : ℕ → ℕ
    o' = joined_owner r.owner id other

    not_zero : w.number ≡ Some 0 → ⊥
    not_zero e = ⊎_elim (λ (none : w.number ≡ None). none-some 0 (sym none ∙ e)) (λ (zero_is : v.number ≡ Some 0). apart (one_seat s r 0 other id w v there at e zero_is)) asked

    joined_seen : IsPrefix (longer v.seen w.seen) r.history
    joined_seen = longer_along (λ (z : History). IsPrefix z r.history) v.seen w.seen (r.each id v at).seen (r.each other w there).seen

    joined_fit : Fit r.history r.given o' (turn s) id (joined_view v w)
    joined_fit = let fv = r.each id v at in let fw = r.each other w there in let h = r.history in record {
      start = fv.start;
      passes = fv.passes;
      seen = joined_seen;
      met = met_joined (λ z. IsPrefix z h) v.seen w.seen v.met fv.seen fw.seen fv.met;
      numbered = λ n e. let m = fv.numbered n e in (m.0, owner_stays r.owner id other n (λ q. apart (sym q ∙ m.1)) ∙ m.1);
      answers = λ n l e. ⊎_elim
          (λ (a : (r.owner n ≡ other) × (id ≡ id)). ⊎_elim (λ (is : w.number ≡ Some n). inr (length v.pairs, (n, entries_by n w.seen), pair_stands v.pairs w.number w.seen n is, refl))
          (λ (p : IsPaired n w.pairs). absurd (not_zero (fw.pairs p.0 p.1 p.2).0)) (fw.answers n l a.0))
          (λ (a : (r.owner n ≢ other) × (r.owner n ≡ id)). ⊎_elim (λ (is : v.number ≡ Some n). inl is)
          (λ (p : IsPaired n v.pairs). inr (p.0, p.1, at_longer v.pairs (pair_of w.number w.seen) p.0 p.1 p.2, p.3)) (fv.answers n l a.1))
          (owner_cases r.owner id other n id e);
      silent = λ n l e. ⊎_elim
          (λ (a : (r.owner n ≡ other) × (id ≡ id)). entries_between n w.seen (longer v.seen w.seen) h (longer_second v.seen w.seen h fv.seen fw.seen) joined_seen (fw.silent n l a.0))
          (λ (a : (r.owner n ≢ other) × (r.owner n ≡ id)). entries_between n v.seen (longer v.seen w.seen) h (longer_first v.seen w.seen h fv.seen fw.seen) joined_seen (fv.silent n l a.1))
          (owner_cases r.owner id other n id e);
      whole = λ n l is w_is. let m = fv.numbered n is in fv.silent n m.0 m.1 ∙ ap (entries_by n) (same_Some v.seen l w_is);
      holding = fv.holding;
      counted = λ e. absurd (not_counted e);
      found = All-append (IsFoundRightly h (turn s)) v.found w.found fv.found fw.found;
      next = fv.next;
      pairs = pairs_joined (λ p. (v.number ≡ Some 0) × ((0 < p.0) × ((p.0 < r.given) × ((o' p.0 ≡ id) × (p.1 ≡ entries_by p.0 h))))) v.pairs w.number w.seen
          (λ k p e. let m = fv.pairs k p e in let own = m.1.1.1.0 in (m.0, (m.1.0, (m.1.1.0, (owner_stays r.owner id other p.0 (λ q. apart (sym q ∙ own)) ∙ own, m.1.1.1.1)))))
          (λ n is. let m = fw.numbered n is in (
            ⊎_elim (λ (none : w.number ≡ None). absurd (none-some n (sym none ∙ is))) (λ (zero_is : v.number ≡ Some 0). zero_is) asked,
            (dite (ℕ_discrete n 0) (λ z. absurd (not_zero (is ∙ ap (λ k. Some k) z))) (λ positive. omega arith), (m.0, (owner_moved r.owner id other n m.1, sym (fw.silent n m.0 m.1)))),
          ));
    }

    spent_fit : Fit r.history r.given o' (turn s) other spent_view
    spent_fit = let never : (n : ℕ) → o' n ≡ other → ⊥ = λ n e. ⊎_elim (λ (a : (r.owner n ≡ other) × (other ≡ id)). apart a.1) (λ (a : (r.owner n ≢ other) × (r.owner n ≡ other)). a.0 a.1) (owner_cases r.owner id other n other e) in record {
      start = λ x e. absurd (none-some x e);
      passes = λ n e. absurd (none-some n e);
      seen = (r.history, refl);
      met = λ k l e. absurd (no_more k l e);
      numbered = λ n e. absurd (none-some n e);
      answers = λ n l e. absurd (never n e);
      silent = λ n l e. absurd (never n e);
      whole = λ n l e. absurd (none-some n e);
      holding = λ d e. absurd (none-some d e);
      next = λ e. absurd (none-some 0 e);
      counted = λ e. absurd (not_counted e);
      found = All-nil _;
      pairs = λ k p e. absurd (no_more k p e);
    }

    others_fit : (j : ℕ) (x : V) → j ≢ id → get_elem? s.views j ≡ some x → j ≢ other → Fit r.history r.given o' (turn s) j x
    others_fit j x not_id e not_other = renumbered r.history r.given r.given r.owner o' (turn s) j x x.next
        (λ n l is. (l, owner_stays r.owner id other n (λ q. not_other (sym is ∙ q)) ∙ is))
        (λ n l is. ⊎_elim (λ (a : (r.owner n ≡ other) × (j ≡ id)). absurd (not_id a.1)) (λ (a : (r.owner n ≢ other) × (r.owner n ≡ j)). (l, a.1)) (owner_cases r.owner id other n j is))
        (r.each j x e).next (r.each j x e)

    joined_rule : w.kept ≡ None → Rule record { words = s.words; homes = s.homes; views = set (set s.views id (joined_view v w)) other spent_view }
    joined_rule idle = let both : V = joined_view v w in let vs : List V = set s.views id both in record {
      history = r.history;
      given = r.given;
      some_given = r.some_given;
      within = r.within;
      few = r.few;
      owner = o';
      owned = λ n l. subst (λ z. o' n < z) (sym (length-set vs other spent_view ∙ length-set s.views id both))
          (dite (ℕ_discrete (r.owner n) other) (λ q. let m = owner_moved r.owner id other n q in let low = at_within s.views id v at in omega arith) (λ q. let m = owner_stays r.owner id other n q in let low = r.owned n l in omega arith));
      known = r.known;
      two = r.two;
      count = r.count;
      each = seats_stay (Fit r.history r.given o' (turn s)) vs other spent_view spent_fit
          (λ j x not_other e. seats_stay (λ i y. i ≢ other → Fit r.history r.given o' (turn s) i y) s.views id both (λ _. joined_fit) others_fit j x e not_other);
      free = r.free;
      busy = λ b. let h = r.busy b in let k = holder_stays s.views (turn s) id v both at refl refl h.0 h.1 in
          let apart_too : h.0 ≢ other = λ q. none-some h.1.1 (sym idle ∙ (ap (λ (z : V). z.kept) (sym (same_seat s.views h.0 other h.1.0 w q h.1.2 there)) ∙ h.1.3.1)) in
          (h.0, (k.0, k.1, set_else vs other h.0 spent_view apart_too ∙ k.2, k.3));
    }

  pub joins_kept : (id : ℕ) (v : V) (other : ℕ) (w : V) → (w.number ≡ None) ⊎ (v.number ≡ Some 0) → w.kept ≡ None → Joins Rule id v other w (joined_view v w) spent_view
  joins_kept id v other w asked idle s r at apart there = joined_rule s r id other v w at apart (sym (set_else s.views id other (joined_view v w) apart) ∙ there) asked idle

  -- close
  module _ (s : St) (r : Rule s) (id : ℕ) (v : V) (count : ℕ) (at : get_elem? s.views id ≡ some v) (zero_is : v.number ≡ Some 0) (idle : v.kept ≡ None) (next : v.next ≡ count)
      (paired : (n : ℕ) → 0 < n → n < count → IsPaired n v.pairs) where
    all_given : r.given ≡ count
    all_given = sym ((r.each id v at).next zero_is) ∙ next

    answers_all : (n : ℕ) → n < r.given → r.owner n ≡ id
    answers_all n l = let fit = r.each id v at in let e = all_given in dite (ℕ_discrete n 0) (λ z. ap r.owner z ∙ (fit.numbered 0 zero_is).1)
        (λ positive. let p = paired n (omega arith) (omega arith) in ap r.owner (sym p.3) ∙ (fit.pairs p.0 p.1 p.2).1.1.1.0)

    seen_all : v.seen ≡ r.history
    seen_all = let fit = r.each id v at in whole_history v.seen r.history fit.seen
        (λ n. ⊎_elim (λ (l : n < r.given). fit.silent n l (answers_all n l)) (λ (l : r.given ≤ n). r.known n l ∙ sym (none_before n v.seen r.history fit.seen (r.known n l))) (below_or n r.given))

    turn_free : turn s ≡ 256
    turn_free = dite (ℕ_discrete (turn s) 256) (λ e. e) (λ b. let h = r.busy b in let m = (r.each h.0 h.1.0 h.1.2).numbered (turn s) h.1.3.0 in
        absurd (none-some h.1.1 (sym idle ∙ (ap (λ (z : V). z.kept) (same_seat s.views id h.0 v h.1.0 (sym (answers_all (turn s) m.0) ∙ m.1) at h.1.2) ∙ h.1.3.1))))

    pub closes : (y : S) × IsLaid s y × Settles step first (state_of y) count v
    closes = let f = r.free turn_free in let fit = r.each id v at in (
      f.0,
      f.1,
      record {
        legal = subst (λ (z : History). Leads step first z (state_of f.0)) (sym seen_all) f.2;
        pairs = λ k p e. (fit.pairs k p e).1.1.1.1 ∙ ap (entries_by p.0) (sym seen_all);
        known = λ n l. ap (entries_by n) seen_all ∙ r.known n (let e = all_given in omega arith);
        found = All-weaker (IsFoundRightly r.history (turn s)) (HadTurnThen v.seen)
            (λ x. ⊎_elim (λ (a : HadTurnThen r.history x). subst (λ (z : History). HadTurnThen z x) (sym seen_all) a) (λ (a : (turn s ≢ 256) × (x ≡ (turn s, r.history))). absurd (a.0 turn_free))) v.found fit.found;
      },
    )

-- what a join and the look behind it tell
pub joined_tells : {D E : Type 0} (v w : View D E) (n : ℕ) → v.number ≡ Some n → Agrees (joined_view v w)
    → IsPrefix v.seen (longer v.seen w.seen) × (IsPrefix w.seen (longer v.seen w.seen) × (entries_by n (longer v.seen w.seen) ≡ entries_by n v.seen))
joined_tells v w n number a = let first = a.met 0 v.seen refl in let second = a.met 1 w.seen refl in
    (longer_first v.seen w.seen a.history first second, (longer_second v.seen w.seen a.history first second, sym (a.own n number) ∙ a.whole n v.seen number refl))
