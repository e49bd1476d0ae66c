-- What stands at the end of a path after its links, by way of its directory.
use Rattle.std.proofs.Common.{◌≡◌, ◌≢◌, ℕ, zero, suc, ◌+◌, ◌-◌, ◌<◌, ◌≤◌, ◌==◌, ltb, Bool, true, false, cond, ◌&&◌, ◌||◌, List, [], ◌∷◌, ◌++◌, length, take, Option, Some, None, Result, Ok, Err, refl, sym, ap, ◌∙◌, subst, arith, append_assoc, length-append, ne_eqb}
use Rattle.std.specs.Option.{option_or, option_map}
use Rattle.std.proofs.lemmas.Bool.Decides.{nat_tests}
use Rattle.odb_value.specs.Paths.{depth_limit, same_name, is_front, same_path}
use Rattle.odb_value.specs.Values.{HeldValue}
use Rattle.odb_tree.specs.declared.rows.Row.{Row}
use Rattle.odb_tree.specs.declared.rows.NewKey.TheVariants.{Dir}
use Rattle.odb_tree.specs.declared.refusals.OdbRefusal.{OdbRefusal}
use Rattle.odb_tree.specs.declared.refusals.OdbRefusal.TheVariants.{NoKey, NotDir, BadLink}
use Rattle.odb_tree.specs.Rows.{Rows, row_at, row_numbered}
use Rattle.odb_tree.specs.Lookups.{parent_of, obstacle_at, obstacle_from, obstacle_to, found_row, seek, key_or_refusal, seek_key}
use Rattle.odb_tree.specs.Links.{is_link, target_of, Met, has_names, met_at, first_link, follow, lead, links_limit, resolved, through}
use Rattle.odb_tree.specs.Calls.{GivesIf, number_reply, find_reply, create_reply, path_with, value_reply, get_reply}
use Rattle.odb_tree.specs.Trees.{AreRising, IsTree}
use Rattle.odb_tree.proofs.WalkLaws.{and_left, and_right}
use Rattle.odb_tree.proofs.Trees.{same_long, same_front, long_same, same_add}
use Rattle.odb_tree.proofs.Led.{resolved_short}
use Rattle.odb_text.specs.TextSteps.{is_exists, there_already}
use Rattle.odb_text.specs.Standing.{IsLed, IsPlaceOf}
use Rattle.odb_text.proofs.Found.{row_same}

-- A path with one name more meets the links of its directory.

one_more : List ℕ → Option Met → Option Met
one_more name None = None
one_more name (Some m) = Some (record { target = m.target; rest = m.rest ++ name ∷ [] })

more_or : (name : List ℕ) (a b : Option Met) → option_or (one_more name a) (one_more name b) ≡ one_more name (option_or a b)
unfolding one_more
more_or name None b = refl
more_or name (Some m) b = refl

some_names : (names : List (List ℕ)) (name : List ℕ) → has_names (names ++ name ∷ []) ≡ true
some_names [] name = refl
some_names (n ∷ names) name = refl

end_met : (o : Option Row) → met_at false [] o ≡ None
end_met None = refl
end_met (Some r) = cases (is_link r)
  where
    cases : (t : Bool) → cond {A = Option Met} (t && false) (Some (record { target = target_of r; rest = [] })) None ≡ None
    cases true = refl
    cases false = refl

here_met : (names : List (List ℕ)) (name : List ℕ) (o : Option Row) → met_at false (names ++ name ∷ []) o ≡ one_more name (met_at true names o)
unfolding one_more
here_met names name None = refl
here_met names name (Some r) =
    ap (λ (t : Bool). cond (is_link r && t) (Some (record { target = target_of r; rest = names ++ name ∷ [] })) None) (some_names names name) ∙ cases (is_link r)
  where
    cases : (t : Bool) → cond (t && true) (Some (record { target = target_of r; rest = names ++ name ∷ [] })) None ≡ one_more name (cond (t && true) (Some (record { target = target_of r; rest = names })) None)
    cases true = refl
    cases false = refl

first_further : (rows : List Row) (passed names : List (List ℕ)) (name : List ℕ) → first_link rows false passed (names ++ name ∷ []) ≡ one_more name (first_link rows true passed names)
unfolding one_more
first_further rows passed [] name = ap (λ (o : Option Met). option_or o None) (end_met (row_at rows (passed ++ name ∷ [])))
first_further rows passed (n ∷ names) name =
    ap (λ (o : Option Met). option_or o (first_link rows false (passed ++ n ∷ []) (names ++ name ∷ []))) (here_met names name (row_at rows (passed ++ n ∷ [])))
    ∙ ap (λ (o : Option Met). option_or (one_more name (met_at true names (row_at rows (passed ++ n ∷ [])))) o) (first_further rows (passed ++ n ∷ []) names name)
    ∙ more_or name (met_at true names (row_at rows (passed ++ n ∷ []))) (first_link rows true (passed ++ n ∷ []) names)

-- so it meets none where the directory's path meets none
pub further_none : (rows : List Row) (p : List (List ℕ)) (name : List ℕ) → first_link rows true [] p ≡ None → first_link rows false [] (p ++ name ∷ []) ≡ None
unfolding one_more
further_none rows p name h = first_further rows [] p name ∙ ap (one_more name) h

-- So it is the directory's path after its links, with the name.
pub record IsFurther (led : Result (List (List ℕ)) OdbRefusal) (name : List ℕ) (q : List (List ℕ)) : Type 0 where
  pub dir : List (List ℕ)
  pub is_led : led ≡ Ok dir
  pub whole : q ≡ dir ++ name ∷ []

fits_less : (t : Bool) (target rest : ℕ) → ltb depth_limit (target + suc rest) ≡ t → t ≡ false → ltb depth_limit (target + rest) ≡ false
fits_less t target rest e f = grind (arith, nat_tests, e, f)

record GoesOn (m : Met) (name : List ℕ) (next : List (List ℕ) → Result (List (List ℕ)) OdbRefusal) (q : List (List ℕ)) : Type 0 where
  short : ltb depth_limit (length m.target + length m.rest) ≡ false
  goes : next ((m.target ++ m.rest) ++ name ∷ []) ≡ Ok q

goes_on : (m : Met) (name : List ℕ) (steps : ℕ) (next : List (List ℕ) → Result (List (List ℕ)) OdbRefusal) (q : List (List ℕ))
    → cond (ltb depth_limit (length m.target + length (m.rest ++ name ∷ []))) (Err (BadLink steps)) (next (m.target ++ (m.rest ++ name ∷ []))) ≡ Ok q → GoesOn m name next q
goes_on m name steps next q h = cases (ltb depth_limit (length m.target + length (m.rest ++ name ∷ []))) refl h
  where
    cases : (t : Bool) → ltb depth_limit (length m.target + length (m.rest ++ name ∷ [])) ≡ t → cond t (Err (BadLink steps)) (next (m.target ++ (m.rest ++ name ∷ []))) ≡ Ok q → GoesOn m name next q
    cases true e k = absurd (cc)
    cases false e k = record {
      short = fits_less false (length m.target) (length m.rest)
          (ap (λ (n : ℕ). ltb depth_limit (length m.target + n)) {x = suc (length m.rest)} {y = length (m.rest ++ name ∷ [])} (omega (arith, length-append m.rest (name ∷ []))) ∙ e) refl;
      goes = ap next (append_assoc m.target m.rest (name ∷ [])) ∙ k;
    }

followed_on : (m : Met) (steps : ℕ) (p : List (List ℕ)) (next : List (List ℕ) → Result (List (List ℕ)) OdbRefusal) → ltb depth_limit (length m.target + length m.rest) ≡ false → follow next steps p (Some m) ≡ next (m.target ++ m.rest)
followed_on m steps p next short = ap (λ (t : Bool). cond t (Err (BadLink steps)) (next (m.target ++ m.rest))) short

lead_further : (more : ℕ) (rows : List Row) (steps : ℕ) (p : List (List ℕ)) (name : List ℕ) (q : List (List ℕ)) → lead more rows false steps (p ++ name ∷ []) ≡ Ok q → IsFurther (lead more rows true steps p) name q
unfolding one_more
lead_further zero rows steps p name q h =
    cases (first_link rows true [] p) (ap (follow (λ _. Err (BadLink steps)) steps (p ++ name ∷ [])) (sym (first_further rows [] p name)) ∙ h)
  where
    cases : (o : Option Met) → follow (λ _. Err (BadLink steps)) steps (p ++ name ∷ []) (one_more name o) ≡ Ok q → IsFurther (follow (λ _. Err (BadLink steps)) steps p o) name q
    cases None k = record { dir = p; is_led = refl; whole = (let e : p ++ name ∷ [] ≡ q = cc in sym e) }
    cases (Some m) k = let g = (goes_on m name steps (λ _. Err (BadLink steps)) q k).goes in absurd (cc)
lead_further (suc more) rows steps p name q h =
    cases (first_link rows true [] p) (ap (follow (lead more rows false (steps + 1)) steps (p ++ name ∷ [])) (sym (first_further rows [] p name)) ∙ h)
    (λ x k. lead_further more rows (steps + 1) x name q k)
  where
    cases : (o : Option Met) → follow (lead more rows false (steps + 1)) steps (p ++ name ∷ []) (one_more name o) ≡ Ok q
        → ((x : List (List ℕ)) → lead more rows false (steps + 1) (x ++ name ∷ []) ≡ Ok q → IsFurther (lead more rows true (steps + 1) x) name q)
        → IsFurther (follow (lead more rows true (steps + 1)) steps p o) name q
    cases None k ih = record { dir = p; is_led = refl; whole = (let e : p ++ name ∷ [] ≡ q = cc in sym e) }
    cases (Some m) k ih =
        let g = goes_on m name steps (lead more rows false (steps + 1)) q k in
        subst (λ (r : Result (List (List ℕ)) OdbRefusal). IsFurther r name q) (sym (followed_on m steps p (lead more rows true (steps + 1)) g.short)) (ih (m.target ++ m.rest) g.goes)

resolved_further : (s : Rows) (p : List (List ℕ)) (name : List ℕ) (q : List (List ℕ)) → resolved s (p ++ name ∷ []) false ≡ Ok q → IsFurther (resolved s p true) name q
resolved_further s p name q h = by_flag s.links h
  where
    by_flag : (links : Bool) → cond links (lead links_limit s.rows false 0 (p ++ name ∷ [])) (Ok (p ++ name ∷ [])) ≡ Ok q → IsFurther (cond links (lead links_limit s.rows true 0 p) (Ok p)) name q
    by_flag true k = lead_further links_limit s.rows 0 p name q k
    by_flag false k = record { dir = p; is_led = refl; whole = (let e : p ++ name ∷ [] ≡ q = cc in sym e) }

-- No link is refused because something is there already.

follow_refusal : (next : List (List ℕ) → Result (List (List ℕ)) OdbRefusal) (steps : ℕ) (p : List (List ℕ)) (o : Option Met) (why : OdbRefusal) → ((x : List (List ℕ)) → next x ≡ Err why → is_exists why ≡ false)
    → follow next steps p o ≡ Err why → is_exists why ≡ false
follow_refusal next steps p None why ih h = absurd (cc)
follow_refusal next steps p (Some m) why ih h = cases (ltb depth_limit (length m.target + length m.rest)) h
  where
    cases : (t : Bool) → cond t (Err (BadLink steps)) (next (m.target ++ m.rest)) ≡ Err why → is_exists why ≡ false
    cases true k = let e : BadLink steps ≡ why = cc in ap is_exists (sym e)
    cases false k = ih (m.target ++ m.rest) k

lead_refusal : (more : ℕ) (rows : List Row) (last : Bool) (steps : ℕ) (p : List (List ℕ)) (why : OdbRefusal) → lead more rows last steps p ≡ Err why → is_exists why ≡ false
lead_refusal zero rows last steps p why h =
    follow_refusal (λ _. Err (BadLink steps)) steps p (first_link rows last [] p) why
    (λ (x : List (List ℕ)) (k : ◌≡◌ {A = Result (List (List ℕ)) OdbRefusal} (Err (BadLink steps)) (Err why)). (let e : BadLink steps ≡ why = cc in ap is_exists (sym e))) h
lead_refusal (suc more) rows last steps p why h =
    follow_refusal (lead more rows last (steps + 1)) steps p (first_link rows last [] p) why (λ x k. lead_refusal more rows last (steps + 1) x why k) h

resolved_refusal : (s : Rows) (p : List (List ℕ)) (last : Bool) (why : OdbRefusal) → resolved s p last ≡ Err why → is_exists why ≡ false
resolved_refusal s p last why h = by_flag s.links h
  where
    by_flag : (links : Bool) → cond links (lead links_limit s.rows last 0 p) (Ok p) ≡ Err why → is_exists why ≡ false
    by_flag true k = lead_refusal links_limit s.rows last 0 p why k
    by_flag false k = absurd (cc)

-- where `create` says that something is there the path has an end
pub led_there : (s : Rows) (p : List (List ℕ)) (why : OdbRefusal) → is_exists why ≡ true → through (resolved s p false) (λ q. create_reply s q Dir) ≡ Err why → IsLed s p
led_there s p why there h = cases (resolved s p false) refl h
  where
    cases : (r : Result (List (List ℕ)) OdbRefusal) → resolved s p false ≡ r → through r (λ q. create_reply s q Dir) ≡ Err why → IsLed s p
    cases (Ok q) e k = (q, e)
    cases (Err other) e k = let same : other ≡ why = cc in absurd (let f : true ≡ false = sym there ∙ (ap is_exists (sym same) ∙ resolved_refusal s p false other e) in cc)

-- A search does not see the case of letters.

both : (a b : Bool) → a ≡ true → b ≡ true → (a && b) ≡ true
both true b h k = k
both false b h k = absurd (cc)

front_more : (p q : List (List ℕ)) (a b : List ℕ) → length p ≡ length q → is_front p q ≡ true → same_name a b ≡ true → is_front (p ++ a ∷ []) (q ++ b ∷ []) ≡ true
front_more [] [] a b e h k = both (same_name a b) true k refl
front_more [] (y ∷ q) a b e h k = absurd (omega (arith, e))
front_more (x ∷ p) [] a b e h k = absurd (omega (arith, e))
front_more (x ∷ p) (y ∷ q) a b e h k =
    both (same_name x y) (is_front (p ++ a ∷ []) (q ++ b ∷ [])) (and_left (same_name x y) (is_front p q) h) (front_more p q a b (omega (arith, e)) (and_right (same_name x y) (is_front p q) h) k)

same_more : (p q : List (List ℕ)) (a b : List ℕ) → same_path p q ≡ true → same_name a b ≡ true → same_path (p ++ a ∷ []) (q ++ b ∷ []) ≡ true
same_more p q a b h k =
    let long : length p ≡ length q = same_long p q h in
    long_same (p ++ a ∷ []) (q ++ b ∷ []) (omega (arith, long, length-append p (a ∷ []), length-append q (b ∷ []))) (front_more p q a b long (same_front p q h) k)

same_tails : (a b : List ℕ) (p q : List (List ℕ)) → same_path (a ∷ p) (b ∷ q) ≡ true → (same_name a b ≡ true) × (same_path p q ≡ true)
same_tails a b p q h =
    let long : length (a ∷ p) ≡ length (b ∷ q) = same_long (a ∷ p) (b ∷ q) h in
    let front : (same_name a b && is_front p q) ≡ true = same_front (a ∷ p) (b ∷ q) h in
    (and_left (same_name a b) (is_front p q) front, long_same p q (omega (arith, long)) (and_right (same_name a b) (is_front p q) front))

obstacle_same : (missing : Option OdbRefusal) (rows : List Row) (reached other names those : List (List ℕ)) → same_path reached other ≡ true → same_path names those ≡ true
    → obstacle_from missing rows reached names ≡ obstacle_from missing rows other those
obstacle_same missing rows reached other [] [] h k = refl
obstacle_same missing rows reached other [] (b ∷ q) h k = absurd (omega (arith, same_long [] (b ∷ q) k))
obstacle_same missing rows reached other (a ∷ p) [] h k = absurd (omega (arith, same_long (a ∷ p) [] k))
obstacle_same missing rows reached other (a ∷ p) (b ∷ q) h k =
    let t = same_tails a b p q k in
    let here : same_path (reached ++ a ∷ []) (other ++ b ∷ []) ≡ true = same_more reached other a b h t.0 in
    ap (λ (o : Option Row). option_or (obstacle_at missing o) (obstacle_from missing rows (reached ++ a ∷ []) p)) (row_same rows (reached ++ a ∷ []) (other ++ b ∷ []) here)
    ∙ ap (λ (o : Option OdbRefusal). option_or (obstacle_at missing (row_at rows (other ++ b ∷ []))) o) (obstacle_same missing rows (reached ++ a ∷ []) (other ++ b ∷ []) p q here t.1)

taken_same : (n : ℕ) (p q : List (List ℕ)) → same_path p q ≡ true → same_path (take n p) (take n q) ≡ true
taken_same zero p q h = refl
taken_same (suc n) [] [] h = refl
taken_same (suc n) [] (b ∷ q) h = absurd (omega (arith, same_long [] (b ∷ q) h))
taken_same (suc n) (a ∷ p) [] h = absurd (omega (arith, same_long (a ∷ p) [] h))
taken_same (suc n) (a ∷ p) (b ∷ q) h =
    let t = same_tails a b p q h in
    let rest : same_path (take n p) (take n q) ≡ true = taken_same n p q t.1 in
    long_same (a ∷ take n p) (b ∷ take n q) (omega (arith, same_long (take n p) (take n q) rest)) (both (same_name a b) (is_front (take n p) (take n q)) t.0 (same_front (take n p) (take n q) rest))

pub seek_same : (rows : List Row) (p q : List (List ℕ)) → same_path p q ≡ true → seek_key rows p ≡ seek_key rows q
seek_same rows [] [] h = refl
seek_same rows [] (b ∷ q) h = absurd (omega (arith, same_long [] (b ∷ q) h))
seek_same rows (a ∷ p) [] h = absurd (omega (arith, same_long (a ∷ p) [] h))
seek_same rows (a ∷ p) (b ∷ q) h =
    let long : length (a ∷ p) ≡ length (b ∷ q) = same_long (a ∷ p) (b ∷ q) h in
    let above : same_path (parent_of (a ∷ p)) (parent_of (b ∷ q)) ≡ true =
    subst (λ (n : ℕ). same_path (take (length (a ∷ p) - 1) (a ∷ p)) (take (n - 1) (b ∷ q)) ≡ true) long (taken_same (length (a ∷ p) - 1) (a ∷ p) (b ∷ q) h) in
    ap (λ (o : Option OdbRefusal). key_or_refusal (found_row o (row_at rows (a ∷ p)))) (obstacle_same (Some NoKey) rows [] [] (parent_of (a ∷ p)) (parent_of (b ∷ q)) refl above)
    ∙ ap (λ (o : Option Row). key_or_refusal (found_row (obstacle_to rows (b ∷ q)) o)) (row_same rows (a ∷ p) (b ∷ q) h)

-- A row is found again by its number.

record IsNumbered (rows : List Row) (p : List (List ℕ)) (from : ℕ) (r : Row) : Type 0 where
  found : row_numbered rows r.number ≡ Some r
  above : from ≤ r.number
  same : same_path r.path p ≡ true

numbered : (rows : List Row) (p : List (List ℕ)) (from next : ℕ) (r : Row) → AreRising from rows next → row_at rows p ≡ Some r → IsNumbered rows p from r
numbered [] p from next r h e = absurd (cc)
numbered (x ∷ xs) p from next r h e = cases (same_path x.path p) refl e (λ k. numbered xs p (x.number + 1) next r h.1 k)
  where
    cases : (t : Bool) → same_path x.path p ≡ t → cond t (Some x) (row_at xs p) ≡ Some r → (row_at xs p ≡ Some r → IsNumbered xs p (x.number + 1) r) → IsNumbered (x ∷ xs) p from r
    cases true is k rest =
        let one : x ≡ r = cc in
        subst (IsNumbered (x ∷ xs) p from) one
        (record { found = ap (λ (t : Bool). cond t (Some x) (row_numbered xs x.number)) (let own : (x.number == x.number) ≡ true = grind (arith, nat_tests) in own); above = h.0; same = is })
    cases false is k rest =
        let t = rest k in
        record {
          found = ap (λ (b : Bool). cond b (Some x) (row_numbered xs r.number)) (ne_eqb x.number r.number (λ (same : x.number ≡ r.number). absurd (omega (arith, same, t.above)))) ∙ t.found;
          above = omega (arith, h.0, t.above);
          same = t.same;
        }

-- The directory of a path is found by number, and the path by the directory's.

gives_ok : (memory : Bool) (n : ℕ) (reply : Result ℕ OdbRefusal) → GivesIf memory (Ok n) reply → reply ≡ Ok n
gives_ok true n reply h = h
gives_ok false n reply h = sym h

record IsDirFound (rows : List Row) (dir : List (List ℕ)) (n : ℕ) : Type 0 where
  path : List (List ℕ)
  found : path_with rows n ≡ Some path
  same : same_path path dir ≡ true

row_found_there : (s : Rows) (dir : List (List ℕ)) (n : ℕ) (obstacle : Option OdbRefusal) (o : Option Row) → IsTree s → row_at s.rows dir ≡ o → number_reply (found_row obstacle o) ≡ Ok n → IsDirFound s.rows dir n
row_found_there s dir n (Some why) o tree e h = absurd (cc)
row_found_there s dir n None None tree e h = absurd (cc)
row_found_there s dir n None (Some r) tree e h =
    let number : r.number ≡ n = cc in
    let k = numbered s.rows dir 1 s.next r tree.numbered e in
    record {
      path = r.path;
      found = ap (λ (m : ℕ). path_with s.rows m) (sym number)
          ∙ (ap (λ (t : Bool). cond t (Some []) (option_map (λ (x : Row). x.path) (row_numbered s.rows r.number))) (ne_eqb r.number 0 (λ (zero_is : r.number ≡ 0). absurd (omega (arith, zero_is, k.above))))
          ∙ ap (option_map (λ (x : Row). x.path)) k.found);
      same = k.same;
    }

dir_found : (s : Rows) (dir : List (List ℕ)) (n : ℕ) → IsTree s → find_reply s dir ≡ Ok n → IsDirFound s.rows dir n
dir_found s [] n tree h = let number : 0 ≡ n = cc in record { path = []; found = ap (λ (m : ℕ). path_with s.rows m) (sym number); same = refl }
dir_found s (a ∷ p) n tree h = row_found_there s (a ∷ p) n (obstacle_to s.rows (a ∷ p)) (row_at s.rows (a ∷ p)) tree refl h

pub record IsAbove (s : Rows) (above : List (List ℕ)) (name : List ℕ) (path : List (List ℕ)) : Type 0 where
  pub short : length path < depth_limit
  pub place : IsPlaceOf s (above ++ name ∷ []) (path ++ name ∷ [])

pub place_found : (s : Rows) (above : List (List ℕ)) (name : List ℕ) (memory : Bool) (n : ℕ) (path : List (List ℕ)) → IsTree s → length above < depth_limit → IsLed s (above ++ name ∷ [])
    → GivesIf memory (Ok n) (through (resolved s above true) (λ q. find_reply s q)) → path_with s.rows n ≡ Some path → IsAbove s above name path
place_found s above name memory n path tree short led find is =
    let f = resolved_further s above name led.0 led.1 in
    let reply : find_reply s f.dir ≡ Ok n = ap (λ (r : Result (List (List ℕ)) OdbRefusal). through r (λ q. find_reply s q)) (sym f.is_led) ∙ gives_ok memory n (through (resolved s above true) (λ q. find_reply s q)) find in
    let d = dir_found s f.dir n tree reply in
    let one : d.path ≡ path = (let e : Some d.path ≡ Some path = sym d.found ∙ is in cc) in
    let same : same_path path f.dir ≡ true = subst (λ (x : List (List ℕ)). same_path x f.dir ≡ true) one d.same in
    let few : length led.0 ≤ depth_limit = resolved_short s (above ++ name ∷ []) led.0 false (omega (arith, short, length-append above (name ∷ []))) led.1 in
    record {
      short = omega (arith, few, ap (length {A = List ℕ}) f.whole, length-append f.dir (name ∷ []), same_long path f.dir same);
      place = record { led = f.dir ++ name ∷ []; is_led = led.1 ∙ ap (λ (x : List (List ℕ)). Ok x) f.whole; same = same_add path f.dir (name ∷ []) same };
    }

-- What `raw` says there decides.

through_led : (s : Rows) (p there : List (List ℕ)) → (h : IsPlaceOf s p there) → through (resolved s p false) (λ q. seek_key s.rows q) ≡ seek_key s.rows there
through_led s p there h = ap (λ (r : Result (List (List ℕ)) OdbRefusal). through r (λ q. seek_key s.rows q)) h.is_led ∙ sym (seek_same s.rows there h.led h.same)

key_seen : (o : Result (ℕ × HeldValue) OdbRefusal) (v : HeldValue) → value_reply o ≡ Ok v → there_already o ≡ Some NotDir
key_seen (Ok key) v h = refl
key_seen (Err why) v h = absurd (cc)

none_seen : (o : Result (ℕ × HeldValue) OdbRefusal) (why : OdbRefusal) → value_reply o ≡ Err why → there_already o ≡ None
none_seen (Ok key) why h = absurd (cc)
none_seen (Err other) why h = refl

pub key_there : (s : Rows) (p there : List (List ℕ)) (v : HeldValue) → IsPlaceOf s p there → get_reply s there ≡ Ok v → there_already (through (resolved s p false) (λ q. seek_key s.rows q)) ≡ Some NotDir
key_there s p there v h k = ap there_already (through_led s p there h) ∙ key_seen (seek_key s.rows there) v k

pub no_key_there : (s : Rows) (p there : List (List ℕ)) (why : OdbRefusal) → IsPlaceOf s p there → get_reply s there ≡ Err why → there_already (through (resolved s p false) (λ q. seek_key s.rows q)) ≡ None
no_key_there s p there why h k = ap there_already (through_led s p there h) ∙ none_seen (seek_key s.rows there) why k

-- the root is a directory
pub root_there : (s : Rows) → there_already (through (resolved s [] false) (λ q. seek_key s.rows q)) ≡ None
root_there s = by_flag s.links
  where
    by_flag : (links : Bool) → there_already (through (cond links (lead links_limit s.rows false 0 []) (Ok [])) (λ q. seek_key s.rows q)) ≡ None
    by_flag true = refl
    by_flag false = refl
