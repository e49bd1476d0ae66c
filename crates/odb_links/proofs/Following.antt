-- The links that a path meets, from the numbers of the rows along it, and the path after them.
use Rattle.std.proofs.Common.{◌≡◌, ◌≢◌, ℕ, zero, suc, ◌+◌, ◌-◌, ◌<◌, ◌≤◌, Bool, true, false, cond, ◌&&◌, ◌||◌, ltb, List, [], ◌∷◌, ◌++◌, length, map, drop, get_or, unwrap_or, Option, Some, None, Result, Ok, Err, refl, sym, ap, ◌∙◌, subst, arith, length-append, length-drop, take, eqb, MatchOption}
use Rattle.std.specs.Option.{option_or, option_map, is_some}
use Rattle.std.proofs.lemmas.Bool.Decides.{nat_tests}
use Rattle.std.proofs.lemmas.List.{drop_more, drop_all, take_all}
use Rattle.std.proofs.Math.Seq.{take-append_seam}
use Rattle.daq_types.specs.declared.types.Tid.TheVariants as tid
use Rattle.odb_value.specs.Paths.{depth_limit}
use Rattle.odb_value.specs.Values.{HeldValue}
use Rattle.odb_tree.specs.declared.rows.Row.{Row}
use Rattle.odb_tree.specs.declared.refusals.OdbRefusal.{OdbRefusal}
use Rattle.odb_tree.specs.declared.refusals.OdbRefusal.TheVariants.{BadLink, NoMemory}
use Rattle.odb_tree.specs.Rows.{Rows, row_at}
use Rattle.odb_tree.specs.Links.{is_link, target_of, target_of_value, Met, has_names, met_at, first_link, follow, lead, numbers_along, number_and}
use Rattle.odb_tree.specs.Trees.{IsTree}
use Rattle.odb_tree.proofs.EachRow.{row_has}
use Rattle.odb_tree.proofs.Led.{no_link_row}
use Rattle.odb_links.specs.declared.links.Link.{Link}
use Rattle.odb_links.specs.Seen.{link_numbered, typed, as_seen, IsRight, AreLinks}
use Rattle.odb_links.specs.declared.leading.Hit.{Hit}
use Rattle.odb_links.specs.Places.{hit_at, hit_among, met_by}
use Rattle.odb_links.proofs.Retyped.{row_mapped}
use Rattle.odb_links.proofs.Above.{none_below}
use Rattle.odb_links.proofs.Marked.{seen_retypes, seen_plain, seen_linked, not_linked, right_at}

-- going along the numbers

pub hit_more : (links : List Link) (last : Bool) (numbers : List ℕ) (names : List (List ℕ)) (i n : ℕ) → i < length numbers → length numbers ≤ length names → n ≡ get_or numbers i 0
    → hit_among links last (drop i numbers) (drop i names) ≡ option_or (hit_at last (drop (i + 1) names) (link_numbered links n)) (hit_among links last (drop (i + 1) numbers) (drop (i + 1) names))
hit_more links last numbers names i n l fits is =
    ap (λ (ns : List ℕ). hit_among links last ns (drop i names)) (drop_more numbers i 0 l ∙ ap (λ (k : ℕ). k ∷ drop (i + 1) numbers) (sym is))
    ∙ ap (hit_among links last (n ∷ drop (i + 1) numbers)) (drop_more names i [] (omega (arith, l, fits)))

-- the link at a place is followed
pub hit_here : (links : List Link) (last : Bool) (numbers : List ℕ) (names : List (List ℕ)) (i n : ℕ) (target : List (List ℕ)) → i < length numbers → length numbers ≤ length names → n ≡ get_or numbers i 0
    → hit_among links last numbers names ≡ hit_among links last (drop i numbers) (drop i names)
    → Some target ≡ option_map (λ (m : Met). m.target) (hit_at last (drop (i + 1) names) (link_numbered links n)) → hit_among links last numbers names ≡ Some (record { target = target; rest = drop (i + 1) names })
hit_here links last numbers names i n target l fits is kept found =
    kept ∙ (hit_more links last numbers names i n l fits is ∙ of_link (link_numbered links n) found)
  where
    of_test : (t : Bool) (x : Link) → Some target ≡ option_map (λ (m : Met). m.target) (cond t (Some (record { target = x.target; rest = drop (i + 1) names })) None)
        → option_or (cond t (Some (record { target = x.target; rest = drop (i + 1) names })) None) (hit_among links last (drop (i + 1) numbers) (drop (i + 1) names)) ≡ Some (record { target = target; rest = drop (i + 1) names })
    of_test true x e = let same : target ≡ x.target = cc in ap (λ (t : List (List ℕ)). Some (let m : Met = record { target = t; rest = drop (i + 1) names } in m)) (sym same)
    of_test false x e = absurd (cc)

    of_link : (o : Option Link) → Some target ≡ option_map (λ (m : Met). m.target) (hit_at last (drop (i + 1) names) o)
        → option_or (hit_at last (drop (i + 1) names) o) (hit_among links last (drop (i + 1) numbers) (drop (i + 1) names)) ≡ Some (record { target = target; rest = drop (i + 1) names })
    of_link None e = absurd (cc)
    of_link (Some x) e = of_test (last || has_names (drop (i + 1) names)) x e

-- no link is followed at a place
pub hit_passed : (links : List Link) (last : Bool) (numbers : List ℕ) (names : List (List ℕ)) (i n : ℕ) → i < length numbers → length numbers ≤ length names → n ≡ get_or numbers i 0
    → hit_among links last numbers names ≡ hit_among links last (drop i numbers) (drop i names) → None ≡ option_map (λ (m : Met). m.target) (hit_at last (drop (i + 1) names) (link_numbered links n))
    → hit_among links last numbers names ≡ hit_among links last (drop (i + 1) numbers) (drop (i + 1) names)
hit_passed links last numbers names i n l fits is kept none =
    kept ∙ (hit_more links last numbers names i n l fits is
    ∙ ap (λ (o : Option Met). option_or o (hit_among links last (drop (i + 1) numbers) (drop (i + 1) names))) (at (hit_at last (drop (i + 1) names) (link_numbered links n)) none))
  where
    at : (o : Option Met) → None ≡ option_map (λ (m : Met). m.target) o → o ≡ None
    at None e = refl
    at (Some x) e = absurd (cc)

pub hit_end : (links : List Link) (last : Bool) (numbers : List ℕ) (names : List (List ℕ)) (i : ℕ) → length numbers ≤ i
    → hit_among links last numbers names ≡ hit_among links last (drop i numbers) (drop i names) → hit_among links last numbers names ≡ None
hit_end links last numbers names i l kept = kept ∙ ap (λ (ns : List ℕ). hit_among links last ns (drop i names)) (drop_all i numbers l)

-- the links that are seen

none_met : (links : List Link) (s : Rows) (last : Bool) (q names : List (List ℕ)) → IsTree s → 0 < length q → row_at s.rows q ≡ None → first_link (map (as_seen links) s.rows) last q names ≡ None
none_met links s last q [] tree some none = refl
none_met links s last q (name ∷ names) tree some none =
    let here : row_at s.rows (q ++ name ∷ []) ≡ None = none_below s q (name ∷ []) tree some none in
    ap (λ (o : Option Row). option_or (met_at last names o) (first_link (map (as_seen links) s.rows) last (q ++ name ∷ []) names)) (row_mapped (as_seen links) (seen_retypes links) s.rows (q ++ name ∷ []) ∙ ap (option_map (as_seen links)) here)
    ∙ none_met links s last (q ++ name ∷ []) names tree (omega (arith, length-append q (name ∷ []))) here

-- the target of a link is that of its text
typed_target : (o : Option HeldValue) → target_of_value (option_map (typed tid.Link) o) ≡ target_of_value o
typed_target None = refl
typed_target (Some v) = refl

met_here : (links : List Link) (last : Bool) (names : List (List ℕ)) (r : Row) (o : Option Link) → link_numbered links r.number ≡ o → is_link r ≡ false → IsRight links r
    → met_at last names (Some (as_seen links r)) ≡ hit_at last names o
met_here links last names r None e plain right =
    ap (λ (x : Row). met_at last names (Some x)) (seen_plain links r (not_linked links r.number e))
    ∙ ap (λ (b : Bool). cond (b && (last || has_names names)) (Some (record { target = target_of r; rest = names })) None) plain
met_here links last names r (Some l) e plain right =
    let text = right_at links r l right e in
    ap (λ (x : Row). met_at last names (Some x)) (seen_linked links r (ap (λ (o : Option Link). is_some o) e))
    ∙ of_value r.value text.value (typed_target r.value ∙ text.goes)
  where
    of_value : (o : Option HeldValue) → o ≡ Some (right_at links r l right e).held → target_of_value (option_map (typed tid.Link) o) ≡ l.target
        → (let x : Row = record { number = r.number; path = r.path; value = option_map (typed tid.Link) o } in met_at last names (Some x)) ≡ cond (last || has_names names) (Some (record { target = l.target; rest = names })) None
    of_value None k t = absurd (cc)
    of_value (Some v) k t = ap (λ (g : List (List ℕ)). cond (last || has_names names) (Some (record { target = g; rest = names })) None) t

pub first_is : (links : List Link) (s : Rows) (last : Bool) (passed names : List (List ℕ)) → AreLinks links s → first_link (map (as_seen links) s.rows) last passed names ≡ hit_among links last (numbers_along s.rows passed names) names
first_is links s last passed [] h = refl
first_is links s last passed (name ∷ names) h =
    ap (λ (o : Option Row). option_or (met_at last names o) (first_link (map (as_seen links) s.rows) last (passed ++ name ∷ []) names)) (row_mapped (as_seen links) (seen_retypes links) s.rows (passed ++ name ∷ []))
    ∙ at (row_at s.rows (passed ++ name ∷ [])) refl (first_is links s last (passed ++ name ∷ []) names h)
  where
    at : (o : Option Row) → row_at s.rows (passed ++ name ∷ []) ≡ o → first_link (map (as_seen links) s.rows) last (passed ++ name ∷ []) names ≡ hit_among links last (numbers_along s.rows (passed ++ name ∷ []) names) names
        → option_or (met_at last names (option_map (as_seen links) o)) (first_link (map (as_seen links) s.rows) last (passed ++ name ∷ []) names)
        ≡ hit_among links last (number_and o (numbers_along s.rows (passed ++ name ∷ []) names)) (name ∷ names)
    at None e ih = none_met links s last (passed ++ name ∷ []) names h.database.tree (omega (arith, length-append passed (name ∷ []))) e
    at (Some r) e ih =
        ap (λ (o : Option Met). option_or o (first_link (map (as_seen links) s.rows) last (passed ++ name ∷ []) names))
        (met_here links last names r (link_numbered links r.number) refl (no_link_row s (passed ++ name ∷ []) r h.database.rows h.plain e) (row_has (IsRight links) s.rows (passed ++ name ∷ []) r h.right e))
        ∙ ap (option_or (hit_at last names (link_numbered links r.number))) ih

-- with no link no path meets one
pub none_at_all : (last : Bool) (numbers : List ℕ) (names : List (List ℕ)) → hit_among [] last numbers names ≡ None
none_at_all last [] names = refl
none_at_all last (n ∷ ns) [] = refl
none_at_all last (n ∷ ns) (name ∷ names) = none_at_all last ns names

pub none_seen : (links : List Link) (s : Rows) (last : Bool) (p : List (List ℕ)) → AreLinks links s → links ≡ [] → first_link (map (as_seen links) s.rows) last [] p ≡ None
none_seen links s last p h e =
    first_is links s last [] p h ∙ (ap (λ (ls : List Link). hit_among ls last (numbers_along s.rows [] p) p) e ∙ none_at_all last (numbers_along s.rows [] p) p)

-- following one after the other

-- The path was led through so many links to this one.
pub record IsOnWay (rows : List Row) (last : Bool) (p : List (List ℕ)) (steps : ℕ) (led : Option (List (List ℕ))) : Type 0 where
  pub leads : lead 16 rows last 0 p ≡ lead (16 - steps) rows last steps (unwrap_or led p)
  pub met : 0 < steps → is_some (first_link rows last [] p) ≡ true
  pub begins : steps ≡ 0 → led ≡ None

lead_end : (rows : List Row) (last : Bool) (more steps : ℕ) (p : List (List ℕ)) → first_link rows last [] p ≡ None → lead more rows last steps p ≡ Ok p
lead_end rows last zero steps p e = ap (follow (λ _. Err (BadLink steps)) steps p) e
lead_end rows last (suc more) steps p e = ap (follow (lead more rows last (steps + 1)) steps p) e

pub way_ends : (rows : List Row) (last : Bool) (p here : List (List ℕ)) (steps : ℕ) (led : Option (List (List ℕ))) → IsOnWay rows last p steps led → here ≡ unwrap_or led p → first_link rows last [] here ≡ None
    → lead 16 rows last 0 p ≡ Ok (unwrap_or led p)
way_ends rows last p here steps led h is none = h.leads ∙ lead_end rows last (16 - steps) steps (unwrap_or led p) (ap (first_link rows last []) (sym is) ∙ none)

-- one link more
lead_step : (rows : List Row) (last : Bool) (steps : ℕ) (p : List (List ℕ)) (m : Met) → steps < 16 → first_link rows last [] p ≡ Some m
    → lead (16 - steps) rows last steps p ≡ follow (lead (16 - (steps + 1)) rows last (steps + 1)) steps p (Some m)
lead_step rows last steps p m l e =
    ap (λ (n : ℕ). lead n rows last steps p) {x = 16 - steps} {y = suc (16 - (steps + 1))} (omega (arith, l)) ∙ ap (follow (lead (16 - (steps + 1)) rows last (steps + 1)) steps p) e

followed_ok : (next : List (List ℕ) → Result (List (List ℕ)) OdbRefusal) (steps : ℕ) (p q : List (List ℕ)) (m : Met) → follow Ok steps p (Some m) ≡ Ok q → follow next steps p (Some m) ≡ next q
followed_ok next steps p q m h = at (ltb depth_limit (length m.target + length m.rest)) h
  where
    at : (t : Bool) → cond t (Err (BadLink steps)) (Ok (m.target ++ m.rest)) ≡ Ok q → cond t (Err (BadLink steps)) (next (m.target ++ m.rest)) ≡ next q
    at true e = absurd (cc)
    at false e = let same : m.target ++ m.rest ≡ q = cc in ap next same

followed_err : (next : List (List ℕ) → Result (List (List ℕ)) OdbRefusal) (steps : ℕ) (p : List (List ℕ)) (m : Met) (why : OdbRefusal) → follow Ok steps p (Some m) ≡ Err why → follow next steps p (Some m) ≡ Err why
followed_err next steps p m why h = at (ltb depth_limit (length m.target + length m.rest)) h
  where
    at : (t : Bool) → cond t (Err (BadLink steps)) (Ok (m.target ++ m.rest)) ≡ Err why → cond t (Err (BadLink steps)) (next (m.target ++ m.rest)) ≡ Err why
    at true e = cc
    at false e = absurd (cc)

way_met : (rows : List Row) (last : Bool) (p here : List (List ℕ)) (steps : ℕ) (led : Option (List (List ℕ))) (m : Met) → IsOnWay rows last p steps led → here ≡ unwrap_or led p → first_link rows last [] here ≡ Some m
    → is_some (first_link rows last [] p) ≡ true
way_met rows last p here zero led m h is e =
    let same : here ≡ p = is ∙ ap (λ (o : Option (List (List ℕ))). unwrap_or o p) (h.begins refl) in
    ap (λ (q : List (List ℕ)). is_some (first_link rows last [] q)) (sym same) ∙ ap (λ (o : Option Met). is_some o) e
way_met rows last p here (suc steps) led m h is e = h.met (omega arith)

pub way_goes_on : (rows : List Row) (last : Bool) (p here q : List (List ℕ)) (steps : ℕ) (led : Option (List (List ℕ))) (m : Met) → IsOnWay rows last p steps led → here ≡ unwrap_or led p → steps < 16
    → first_link rows last [] here ≡ Some m → follow Ok steps here (Some m) ≡ Ok q → IsOnWay rows last p (steps + 1) (Some q)
way_goes_on rows last p here q steps led m h is l e goes = record {
  leads = h.leads ∙ (ap (lead (16 - steps) rows last steps) (sym is) ∙ (lead_step rows last steps here m l e ∙ followed_ok (lead (16 - (steps + 1)) rows last (steps + 1)) steps here q m goes));
  met = λ _. way_met rows last p here steps led m h is e;
  begins = λ k. absurd (omega (arith, k));
}

pub way_refused : (rows : List Row) (last : Bool) (p here : List (List ℕ)) (steps : ℕ) (led : Option (List (List ℕ))) (m : Met) (why : OdbRefusal) → IsOnWay rows last p steps led → here ≡ unwrap_or led p → steps < 16
    → first_link rows last [] here ≡ Some m → (why ≢ NoMemory → follow Ok steps here (Some m) ≡ Err why) → why ≢ NoMemory → lead 16 rows last 0 p ≡ Err why
way_refused rows last p here steps led m why h is l e goes memory =
    h.leads ∙ (ap (lead (16 - steps) rows last steps) (sym is) ∙ (lead_step rows last steps here m l e ∙ followed_err (lead (16 - (steps + 1)) rows last (steps + 1)) steps here m why (goes memory)))

pub way_meets : (rows : List Row) (last : Bool) (p here : List (List ℕ)) (steps : ℕ) (led : Option (List (List ℕ))) (m : Met) → IsOnWay rows last p steps led → here ≡ unwrap_or led p → first_link rows last [] here ≡ Some m
    → is_some (first_link rows last [] p) ≡ true
way_meets rows last p here steps led m h is e = way_met rows last p here steps led m h is e

-- a link too many
pub way_too_long : (rows : List Row) (last : Bool) (p here : List (List ℕ)) (steps : ℕ) (led : Option (List (List ℕ))) (m : Met) → IsOnWay rows last p steps led → here ≡ unwrap_or led p → steps ≡ 16
    → first_link rows last [] here ≡ Some m → lead 16 rows last 0 p ≡ Err (BadLink 16)
way_too_long rows last p here steps led m h is l e =
    h.leads ∙ (ap (lead (16 - steps) rows last steps) (sym is) ∙ (ap (λ (n : ℕ). lead (16 - n) rows last n here) l ∙ (ap (follow (λ _. Err (BadLink 16)) 16 here) e ∙ any (ltb depth_limit (length m.target + length m.rest)))))
  where
    any : (t : Bool) → (let r : Result (List (List ℕ)) OdbRefusal = cond t (Err (BadLink 16)) (Err (BadLink 16)) in r ≡ Err (BadLink 16))
    any true = refl
    any false = refl

-- what a walk wrote

pub no_links : (links : List Link) (t : Bool) → t ≡ eqb (length links) 0 → t ≡ true → links ≡ []
no_links [] t e h = refl
no_links (l ∷ ls) t e h = let k : eqb (length (l ∷ ls)) 0 ≡ true = sym e ∙ h in absurd (more (length ls) k)
  where
    more : (n : ℕ) → eqb (suc n) 0 ≡ true → ⊥
    more n k = grind (arith, nat_tests, k)

-- the names behind a place
pub behind : (names : List (List ℕ)) (d : ℕ) → d ≤ length names → take (length names - d) (drop d names) ≡ drop d names
behind names d l = take_all (length names - d) (drop d names) (omega (arith, length-drop d names))

pub along_short : (rows : List Row) (passed names : List (List ℕ)) → length (numbers_along rows passed names) ≤ length names
along_short rows passed [] = omega arith
along_short rows passed (name ∷ names) = at (row_at rows (passed ++ name ∷ [])) (along_short rows (passed ++ name ∷ []) names)
  where
    at : (o : Option Row) → length (numbers_along rows (passed ++ name ∷ []) names) ≤ length names → length (number_and o (numbers_along rows (passed ++ name ∷ []) names)) ≤ length (name ∷ names)
    at None h = omega arith
    at (Some r) h = omega (arith, h)

pub walked : (rows : List Row) (p : List (List ℕ)) (count : ℕ) (numbers rest : List ℕ) → count ≡ length (numbers_along rows [] p) → numbers ≡ numbers_along rows [] p ++ rest → take count numbers ≡ numbers_along rows [] p
walked rows p count numbers rest e is = ap (λ (n : ℕ). take n numbers) e ∙ (ap (take (length (numbers_along rows [] p))) is ∙ take-append_seam (numbers_along rows [] p) rest)

pub walked_within : (rows : List Row) (p names : List (List ℕ)) (count : ℕ) (numbers rest : List ℕ) → count ≡ length (numbers_along rows [] p) → numbers ≡ numbers_along rows [] p ++ rest → names ≡ p
    → length (take count numbers) ≤ length names
walked_within rows p names count numbers rest e is same =
    omega (arith, ap (λ (l : List ℕ). length l) (walked rows p count numbers rest e is), along_short rows [] p, ap (λ (l : List (List ℕ)). length l) same)

pub as_hit : (r : Option Hit) (a b : Option Met) (p q : List (List ℕ)) → b ≡ a → q ≡ p → MatchOption r (b ≡ None) (λ (hit : Hit). b ≡ Some (met_by q hit)) → MatchOption r (a ≡ None) (λ (hit : Hit). a ≡ Some (met_by p hit))
as_hit r a b p q e same h =
    subst (λ (x : Option Met). MatchOption r (x ≡ None) (λ (hit : Hit). x ≡ Some (met_by p hit))) e (subst (λ (n : List (List ℕ)). MatchOption r (b ≡ None) (λ (hit : Hit). b ≡ Some (met_by n hit))) same h)
