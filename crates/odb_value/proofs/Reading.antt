-- Reading a path: what has been read, and what is left.
use Rattle.std.proofs.Common.{◌≡◌, ℕ, ◌+◌, ◌-◌, ◌*◌, ◌<◌, ◌≤◌, Bool, true, false, cond, eqb, ltb, List, [], ◌∷◌, ◌++◌, length, take, drop, Option, Some, None, Result, Ok, Err, IsOk, IfSome, IfNone, position, refl, sym, ap, ◌∙◌, subst, arith}
use Rattle.std.specs.Option.{option_or}
use Rattle.std.specs.List.{position_or_len}
use Rattle.std.proofs.lemmas.List.{append_assoc, length-append, length-take-le}
use Rattle.std.proofs.lemmas.List.Splits.{slice_split_first, slice_split_none}
use Rattle.std.proofs.lemmas.List.Sums.{fails_before_first}
use Rattle.std.proofs.lemmas.List.Elements.{All-from_get_or}
use Rattle.std.proofs.lemmas.Option.{cond_some}
use Rattle.std.proofs.lemmas.Bool.Decides.{nat_tests}
use Rattle.odb_value.specs.declared.path_refusals.PathRefusal.{PathRefusal}
use Rattle.odb_value.specs.Paths.{depth_limit}
use Rattle.odb_value.specs.PathText.{behind_slash, pieces, names_behind, names_start, add_fault, first_fault, names_or, path_reply}

-- these names have been read off the text, without a fault, and the rest begins at this place
pub record IsRead (body : List ℕ) (start : ℕ) (names : List (List ℕ)) (rest : List ℕ) (place : ℕ) : Type 0 where
  pub names_are : pieces body ≡ names ++ pieces rest
  pub faults_are : first_fault start 0 (pieces body) ≡ first_fault place (length names) (pieces rest)
  pub bound : place ≤ 1 + 32 * length names
  pub few : length names ≤ depth_limit

-- so many names have been read off the text
pub record IsReadTo (body : List ℕ) (start depth : ℕ) (rest : List ℕ) (place : ℕ) : Type 0 where
  pub names : List (List ℕ)
  pub read : IsRead body start names rest place
  pub many : depth ≡ length names

pub read_none : (body : List ℕ) (start : ℕ) → start ≤ 1 → IsRead body start [] body start
read_none body start h = record { names_are = refl; faults_are = refl; bound = omega arith; few = omega arith }

-- the first piece ends at the first slash
cut_at : (text : List ℕ) (at : ℕ) → position (λ b. eqb b 47) text ≡ Some at → pieces text ≡ take at text ∷ pieces (drop (at + 1) text)
cut_at text at h =
    let both = cond_some (ltb (position_or_len (λ b. eqb b 47) text) (length text)) (position_or_len (λ b. eqb b 47) text) at h in
    let within : position_or_len (λ b. eqb b 47) text < length text = grind (arith, nat_tests, both.0) in
    slice_split_first (λ b. eqb b 47) text 0 within
    ∙ ap (λ (n : ℕ). take n text ∷ pieces (drop (n + 1) text)) both.1

cond_none : (b : Bool) (n : ℕ) → cond b (Some n) None ≡ None → b ≡ false
cond_none true n h = cc
cond_none false n h = refl

-- without a slash there is one piece
cut_none : (text : List ℕ) → position (λ b. eqb b 47) text ≡ None → pieces text ≡ text ∷ []
cut_none text h =
    let past = cond_none (ltb (position_or_len (λ b. eqb b 47) text) (length text)) (position_or_len (λ b. eqb b 47) text) h in
    let long : length text ≤ position_or_len (λ b. eqb b 47) text = grind (arith, nat_tests, past) in
    slice_split_none (λ b. eqb b 47) text
    (All-from_get_or (λ b. eqb b 47 ≡ false) text 0 (λ k l. fails_before_first (λ b. eqb b 47) text k 0 (omega (arith, long, l))))

-- one name more is read
read_more : (body : List ℕ) (start : ℕ) (names : List (List ℕ)) (rest : List ℕ) (place at : ℕ) → IsRead body start names rest place
    → position (λ b. eqb b 47) rest ≡ Some at → at < length rest → add_fault place (length names) (take at rest) ≡ None → length (take at rest) ≤ 31 → length names < depth_limit
    → IsRead body start (names ++ take at rest ∷ []) (drop (at + 1) rest) (place + (at + 1))
read_more body start names rest place at h p w good short room =
    let cut : pieces rest ≡ take at rest ∷ pieces (drop (at + 1) rest) = cut_at rest at p in
    let size : length (take at rest) ≡ at = length-take-le at rest (omega arith) in
    let count : length (names ++ take at rest ∷ []) ≡ length names + 1 = length-append names (take at rest ∷ []) in
    record {
      names_are = h.names_are ∙ (ap (λ (x : List (List ℕ)). names ++ x) cut ∙ sym (append_assoc names (take at rest ∷ []) (pieces (drop (at + 1) rest))));
      faults_are = h.faults_are
          ∙ (ap (λ (x : List (List ℕ)). first_fault place (length names) x) cut
          ∙ (ap (λ (o : Option PathRefusal). option_or o (first_fault (place + (length (take at rest) + 1)) (length names + 1) (pieces (drop (at + 1) rest)))) good
          ∙ (ap (λ (n : ℕ). first_fault (place + (n + 1)) (length names + 1) (pieces (drop (at + 1) rest))) size
          ∙ ap (λ (n : ℕ). first_fault (place + (at + 1)) n (pieces (drop (at + 1) rest))) (sym count))));
      bound = omega (arith, h.bound, count, size, short);
      few = omega (arith, count, room);
    }

-- the last name is read, and none is at fault
read_all : (body : List ℕ) (start : ℕ) (names : List (List ℕ)) (rest : List ℕ) (place : ℕ) → IsRead body start names rest place
    → position (λ b. eqb b 47) rest ≡ None → add_fault place (length names) rest ≡ None
    → names_or (pieces body) (first_fault start 0 (pieces body)) ≡ Ok (names ++ rest ∷ [])
read_all body start names rest place h p good =
    let cut : pieces rest ≡ rest ∷ [] = cut_none rest p in
    let faults : first_fault start 0 (pieces body) ≡ None =
    h.faults_are ∙ (ap (λ (x : List (List ℕ)). first_fault place (length names) x) cut ∙ ap (λ (o : Option PathRefusal). option_or o None) good) in
    ap (λ (o : Option PathRefusal). names_or (pieces body) o) faults
    ∙ ap (λ (x : List (List ℕ)). Ok x) (h.names_are ∙ ap (λ (x : List (List ℕ)). names ++ x) cut)

-- the next name is at fault
read_fault : (body : List ℕ) (start : ℕ) (names : List (List ℕ)) (rest : List ℕ) (place at : ℕ) (refusal : PathRefusal) → IsRead body start names rest place
    → position (λ b. eqb b 47) rest ≡ Some at → add_fault place (length names) (take at rest) ≡ Some refusal
    → first_fault start 0 (pieces body) ≡ Some refusal
read_fault body start names rest place at refusal h p bad =
    h.faults_are ∙ (ap (λ (x : List (List ℕ)). first_fault place (length names) x) (cut_at rest at p)
    ∙ ap (λ (o : Option PathRefusal). option_or o (first_fault (place + (length (take at rest) + 1)) (length names + 1) (pieces (drop (at + 1) rest)))) bad)

read_last_fault : (body : List ℕ) (start : ℕ) (names : List (List ℕ)) (rest : List ℕ) (place : ℕ) (refusal : PathRefusal) → IsRead body start names rest place
    → position (λ b. eqb b 47) rest ≡ None → add_fault place (length names) rest ≡ Some refusal
    → first_fault start 0 (pieces body) ≡ Some refusal
read_last_fault body start names rest place refusal h p bad =
    h.faults_are ∙ (ap (λ (x : List (List ℕ)). first_fault place (length names) x) (cut_none rest p)
    ∙ ap (λ (o : Option PathRefusal). option_or o None) bad)

names_of_body : (body : List ℕ) → eqb (length body) 0 ≡ false → names_behind body ≡ pieces body
names_of_body [] h = absurd (cc)
names_of_body (b ∷ bs) h = refl

-- where the text is not the root's, its pieces decide
reply_of_body : (text : List ℕ) → eqb (length (behind_slash text)) 0 ≡ false
    → path_reply text ≡ names_or (pieces (behind_slash text)) (first_fault (names_start text) 0 (pieces (behind_slash text)))
reply_of_body text h = ap (λ (names : List (List ℕ)). names_or names (first_fault (names_start text) 0 names)) (names_of_body (behind_slash text) h)

pub replies_path : (text : List ℕ) (names : List (List ℕ)) (rest : List ℕ) (place : ℕ) → eqb (length (behind_slash text)) 0 ≡ false
    → IsRead (behind_slash text) (names_start text) names rest place
    → position (λ b. eqb b 47) rest ≡ None → add_fault place (length names) rest ≡ None → path_reply text ≡ Ok (names ++ rest ∷ [])
replies_path text names rest place some h p good = reply_of_body text some ∙ read_all (behind_slash text) (names_start text) names rest place h p good

pub replies_fault : (text : List ℕ) (names : List (List ℕ)) (rest name : List ℕ) (place at : ℕ) (refusal : PathRefusal) → eqb (length (behind_slash text)) 0 ≡ false
    → IsRead (behind_slash text) (names_start text) names rest place
    → position (λ b. eqb b 47) rest ≡ Some at → name ≡ take at rest → add_fault place (length names) name ≡ Some refusal → path_reply text ≡ Err refusal
replies_fault text names rest name place at refusal some h p is bad =
    reply_of_body text some ∙ ap (names_or (pieces (behind_slash text)))
    (read_fault (behind_slash text) (names_start text) names rest place at refusal h p (subst (λ (n : List ℕ). add_fault place (length names) n ≡ Some refusal) is bad))

pub replies_last_fault : (text : List ℕ) (names : List (List ℕ)) (rest : List ℕ) (place : ℕ) (refusal : PathRefusal) → eqb (length (behind_slash text)) 0 ≡ false
    → IsRead (behind_slash text) (names_start text) names rest place
    → position (λ b. eqb b 47) rest ≡ None → add_fault place (length names) rest ≡ Some refusal → path_reply text ≡ Err refusal
replies_last_fault text names rest place refusal some h p bad =
    reply_of_body text some ∙ ap (names_or (pieces (behind_slash text))) (read_last_fault (behind_slash text) (names_start text) names rest place refusal h p bad)

-- one name more, as the parts of the text are lent
pub read_next : (body : List ℕ) (start : ℕ) (names more : List (List ℕ)) (rest name behind : List ℕ) (place at : ℕ) → IsRead body start names rest place
    → position (λ b. eqb b 47) rest ≡ Some at → at < length rest → name ≡ take at rest → behind ≡ drop (at + 1) rest → more ≡ names ++ name ∷ []
    → add_fault place (length names) name ≡ None → length name ≤ 31 → length names < depth_limit
    → IsRead body start more behind (place + (at + 1))
read_next body start names more rest name behind place at h p w is left added good short room =
    let good_too : add_fault place (length names) (take at rest) ≡ None = subst (λ (n : List ℕ). add_fault place (length names) n ≡ None) is good in
    let short_too : length (take at rest) ≤ 31 = subst (λ (n : List ℕ). length n ≤ 31) is short in
    subst (λ (m : List (List ℕ)). IsRead body start m behind (place + (at + 1))) (sym (added ∙ ap (λ (n : List ℕ). names ++ n ∷ []) is))
    (subst (λ (b : List ℕ). IsRead body start (names ++ take at rest ∷ []) b (place + (at + 1))) (sym left)
    (read_more body start names rest place at h p w good_too short_too room))

pub not_empty : (text body : List ℕ) (empty : Bool) → body ≡ behind_slash text → empty ≡ eqb (length body) 0 → empty ≡ false → eqb (length (behind_slash text)) 0 ≡ false
not_empty text body empty e f g = ap (λ (x : List ℕ). eqb (length x) 0) (sym e) ∙ (sym f ∙ g)

pub no_slash : (found : Option ℕ) (rest : List ℕ) → found ≡ position (λ b. eqb b 47) rest → ((at : ℕ) → found ≡ Some at → ⊥) → position (λ b. eqb b 47) rest ≡ None
no_slash None rest e h = sym e
no_slash (Some at) rest e h = absurd (h at refl)

-- The same, where the names are counted alone.

-- one slash at most stands in front of the first name
pub start_small : (text : List ℕ) → names_start text ≤ 1
start_small [] = omega arith
start_small (b ∷ bs) = cases (eqb b 47)
  where
    cases : (slash : Bool) → length (b ∷ bs) - length (cond slash bs (b ∷ bs)) ≤ 1
    cases true = omega arith
    cases false = omega arith

pub none_read : (body : List ℕ) (start : ℕ) → start ≤ 1 → IsReadTo body start 0 body start
none_read body start h = record { names = []; read = read_none body start h; many = refl }

pub reads_on : (body : List ℕ) (start depth : ℕ) (rest name behind : List ℕ) (place at : ℕ) (found : Option PathRefusal) → IsReadTo body start depth rest place
    → position (λ b. eqb b 47) rest ≡ Some at → at < length rest → name ≡ take at rest → behind ≡ drop (at + 1) rest
    → found ≡ add_fault place depth name → found ≡ None → length name ≤ 31 → depth < depth_limit
    → IsReadTo body start (depth + 1) behind (place + (at + 1))
reads_on body start depth rest name behind place at found h p w is left fault none short room = record {
  names = h.names ++ name ∷ [];
  read = read_next body start h.names (h.names ++ name ∷ []) rest name behind place at h.read p w is left refl
      (ap (λ (n : ℕ). add_fault place n name) (sym h.many) ∙ (sym fault ∙ none)) short (omega (arith, room, h.many));
  many = omega (arith, h.many, length-append h.names (name ∷ []));
}

pub faults_at : (text : List ℕ) (depth : ℕ) (rest name : List ℕ) (place at : ℕ) (found : Option PathRefusal) (refusal : PathRefusal) → eqb (length (behind_slash text)) 0 ≡ false
    → IsReadTo (behind_slash text) (names_start text) depth rest place
    → position (λ b. eqb b 47) rest ≡ Some at → name ≡ take at rest → found ≡ add_fault place depth name → found ≡ Some refusal → path_reply text ≡ Err refusal
faults_at text depth rest name place at found refusal some h p is fault bad =
    replies_fault text h.names rest name place at refusal some h.read p is (ap (λ (n : ℕ). add_fault place n name) (sym h.many) ∙ (sym fault ∙ bad))

pub ends_read : (text : List ℕ) (depth : ℕ) (rest : List ℕ) (place : ℕ) (found : Option PathRefusal) → eqb (length (behind_slash text)) 0 ≡ false
    → IsReadTo (behind_slash text) (names_start text) depth rest place
    → position (λ b. eqb b 47) rest ≡ None → found ≡ add_fault place depth rest
    → IfSome found (λ refusal. path_reply text ≡ Err refusal) × IfNone found (IsOk (path_reply text))
ends_read text depth rest place None some h p fault =
    (tt, is_ok (path_reply text) (h.names ++ rest ∷ []) (replies_path text h.names rest place some h.read p (ap (λ (n : ℕ). add_fault place n rest) (sym h.many) ∙ sym fault)))
  where
    is_ok : (reply : Result (List (List ℕ)) PathRefusal) (names : List (List ℕ)) → reply ≡ Ok names → IsOk reply
    is_ok (Ok path) names e = refl
    is_ok (Err refusal) names e = absurd (cc)
ends_read text depth rest place (Some refusal) some h p fault =
    (replies_last_fault text h.names rest place refusal some h.read p (ap (λ (n : ℕ). add_fault place n rest) (sym h.many) ∙ sym fault), tt)
