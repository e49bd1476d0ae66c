-- Files of a run that are removed one after the other.
use Rattle.std.specs.Prelude.{◌≡◌, ◌≢◌, ◌<◌, ◌≤◌, ◌+◌, ◌⊎◌, ◌++◌, ◌∷◌, [], ℕ, IsTrue, Contains, List, length, Option, Some, None, Result, Ok, Err, OnOk, OnErr, refl}
use Rattle.std.proofs.Common.{arith, ap, sym, subst, ◌∙◌, inl, inr, length-append}
use Rattle.std.proofs.lemmas.Bool.Decides.{eqb_tells}
use Rattle.daq_io.specs.Counts.{CountsFault, Rose, RoseBy, first_of}
use Rattle.daq_io.specs.Seen.{GoesOn, Seen, Touches, Same, KeepsNumbers, Removes}
use Rattle.daq_io.proofs.SeenLaws.{KeepsNumber-refl, KeepsNumbers-trans, KeepsFiles-Touches, name_tells, on_more, on_same, on_then}
use Rattle.daq_io.proofs.Counts.{RoseBy-then}
use Rattle.std.proofs.lemmas.List.Elements.{Contains-append_left, Contains-append_right}
use Rattle.sub_files.specs.RecordFiles.{AreGone, IsUndone, LeavesForFaults, RemovesNames, NamesOneOf}
use Rattle.sub_files.proofs.FilesGone.{removed_undone, undone_before, undone_elsewhere, undone_kept}

-- so many were removed, and this is answered so far
pub record HasRemoved {T E : Type 0} (names : ℕ → List ℕ) (many : ℕ) (a b : Seen) (fa fb : ℕ) (oa ob : Option (List ℕ)) (answer : Result T E) : Type 0 where
  pub removes : RemovesNames names many a b
  pub gone : OnOk answer (AreGone a b names many)
  pub leaves : LeavesForFaults names many a b fa fb
  pub faults : CountsFault fa fb answer
  pub quiet : OnOk answer (ob ≡ oa)
  pub first : OnErr answer (NamesOneOf names many oa ob)

none_yet : {T E : Type 0} (names : ℕ → List ℕ) (a : Seen) (fa : ℕ) (oa : Option (List ℕ)) (x : T) → (let r : Result T E = Ok x in HasRemoved names 0 a a fa fa oa oa r)
none_yet names a fa oa x = record {
  removes = record { told = refl; on = on_same refl; others = λ name none. refl; numbers = λ n. KeepsNumber-refl a n };
  gone = λ n below. absurd (omega (arith, below));
  leaves = record { left = []; each = λ n below. absurd (omega (arith, below)); faults = omega arith };
  faults = record { later = omega arith; done = refl; failed = tt };
  quiet = refl;
  first = tt;
}

pub none_removed : {T E : Type 0} (names : ℕ → List ℕ) (a : Seen) (fa : ℕ) (oa : Option (List ℕ)) (r : Result T E) (x : T) → r ≡ Ok x → HasRemoved names 0 a a fa fa oa oa r
none_removed names a fa oa r x is = rw is (none_yet names a fa oa x)

removes_more : (names : ℕ → List ℕ) (many : ℕ) (a b c : Seen) → RemovesNames names many a b → Touches b c (names many) → GoesOn b c → KeepsNumbers b c → RemovesNames names (many + 1) a c
removes_more names many a b c p touches on numbers = record {
  told = touches.names ∙ p.told;
  on = on_then p.on on;
  others = λ name none. touches.others name (none many (omega arith)) ∙ p.others name (λ n below. none n (omega (arith, below)));
  numbers = KeepsNumbers-trans p.numbers numbers;
}

earlier : (names : ℕ → List ℕ) (many n : ℕ) → n < many + 1 → names n ≢ names many → n < many
earlier names many n below differs = elim (eqb_tells n many) as (λ w. n < many) [
  | inl same ↦ absurd (differs (ap names same.1))
  | inr other ↦ (let apart = other.1 in omega (arith, below, apart))
]

gone_more : (names : ℕ → List ℕ) (many : ℕ) (a b c : Seen) → GoesOn a b → Removes b c (names many) → AreGone a b names many → AreGone a c names (many + 1)
gone_more names many a b c on removes gone = λ n below. elim (name_tells (names n) (names many)) as (λ w. IsUndone a c (names n)) [
  | inl same ↦ subst (λ (name : List ℕ). IsUndone a c name) (sym same) (undone_before on (removed_undone removes))
  | inr differs ↦ undone_elsewhere (gone n (earlier names many n below differs)) removes.touches (on_more _ removes.done) differs
]

-- what is left behind a file that was removed, and behind one that was not
leaves_ok : (names : ℕ → List ℕ) (many : ℕ) (a b c : Seen) (fa fb fc : ℕ) → GoesOn a b → LeavesForFaults names many a b fa fb → Removes b c (names many) → fc ≡ fb → LeavesForFaults names (many + 1) a c fa fc
leaves_ok names many a b c fa fb fc on l removes faults = record {
  left = l.left;
  each = λ n below. elim (name_tells (names n) (names many)) as (λ w. IsUndone a c (names n) ⊎ Contains l.left n) [
    | inl same ↦ inl (subst (λ (name : List ℕ). IsUndone a c name) (sym same) (undone_before on (removed_undone removes)))
    | inr differs ↦ elim (l.each n (earlier names many n below differs)) as (λ w. IsUndone a c (names n) ⊎ Contains l.left n) [
      | inl gone ↦ inl (undone_elsewhere gone removes.touches (on_more _ removes.done) differs)
      | inr among ↦ inr among
    ]
  ];
  faults = subst (λ (n : ℕ). RoseBy (length l.left) fa n) (sym faults) l.faults;
}

rose_more : (left : List ℕ) (more fa fb fc : ℕ) → RoseBy (length left) fa fb → Rose fb fc → RoseBy (length (left ++ more ∷ [])) fa fc
rose_more left more fa fb fc before rose = subst (λ (n : ℕ). RoseBy n fa fc) (sym (length-append left (more ∷ []))) (RoseBy-then (length left) 1 fa fb fc before rose)

leaves_err : (names : ℕ → List ℕ) (many : ℕ) (a b c : Seen) (fa fb fc : ℕ) → LeavesForFaults names many a b fa fb → Same b c → Rose fb fc → LeavesForFaults names (many + 1) a c fa fc
leaves_err names many a b c fa fb fc l same rose = record {
  left = l.left ++ many ∷ [];
  each = λ n below. elim (eqb_tells n many) as (λ w. IsUndone a c (names n) ⊎ Contains (l.left ++ many ∷ []) n) [
    | inl last ↦ inr (subst (λ (k : ℕ). Contains (l.left ++ many ∷ []) k) (sym last.1) (Contains-append_right l.left (many ∷ []) many (0, omega arith, refl)))
    | inr other ↦ elim (l.each n (let apart = other.1 in omega (arith, below, apart))) as (λ w. IsUndone a c (names n) ⊎ Contains (l.left ++ many ∷ []) n) [
      | inl gone ↦ inl (undone_kept gone same.files)
      | inr among ↦ inr (Contains-append_left l.left (many ∷ []) n among)
    ]
  ];
  faults = rose_more l.left many fa fb fc l.faults rose;
}

on_ok : {T E P Q : Type 0} (r : Result T E) → (P → Q) → OnOk r P → OnOk r Q
on_ok (Ok x) f p = f p
on_ok (Err e) f p = p

on_err : {T E P Q : Type 0} (r : Result T E) → (P → Q) → OnErr r P → OnErr r Q
on_err (Ok x) f p = p
on_err (Err e) f p = f p

one_more : (names : ℕ → List ℕ) (many : ℕ) (first later : Option (List ℕ)) → NamesOneOf names many first later → NamesOneOf names (many + 1) first later
one_more names many first later one = (one.0, (let below = one.1 in omega (arith, below)), one.2)

pub removed_ok : {T E : Type 0} (names : ℕ → List ℕ) (many : ℕ) (a b c : Seen) (fa fb fc : ℕ) (oa ob oc : Option (List ℕ)) (r : Result T E) → HasRemoved names many a b fa fb oa ob r → Removes b c (names many) → fc ≡ fb → oc ≡ ob
    → HasRemoved names (many + 1) a c fa fc oa oc r
removed_ok names many a b c fa fb fc oa ob oc r p removes faults first = record {
  removes = removes_more names many a b c p.removes removes.touches (on_more _ removes.done) removes.numbers;
  gone = on_ok r (gone_more names many a b c p.removes.on removes) p.gone;
  leaves = leaves_ok names many a b c fa fb fc p.removes.on p.leaves removes faults;
  faults = subst (λ (n : ℕ). CountsFault fa n r) (sym faults) p.faults;
  quiet = on_ok r (λ same. first ∙ same) p.quiet;
  first = on_err r (λ one. one_more names many oa oc (subst (λ (o : Option (List ℕ)). NamesOneOf names many oa o) (sym first) one)) p.first;
}

first_stays : (o : Option (List ℕ)) (name other : List ℕ) → first_of (first_of o name) other ≡ first_of o name
first_stays None name other = refl
first_stays (Some before) name other = refl

names_more : {T E : Type 0} (names : ℕ → List ℕ) (many : ℕ) (oa ob oc : Option (List ℕ)) (r : Result T E) → OnOk r (ob ≡ oa) → OnErr r (NamesOneOf names many oa ob) → oc ≡ first_of ob (names many) → NamesOneOf names (many + 1) oa oc
names_more names many oa ob oc (Ok x) same one first = (many, omega arith, first ∙ ap (λ (o : Option (List ℕ)). first_of o (names many)) same)
names_more names many oa ob oc (Err e) same one first =
    (one.0, (let below = one.1 in omega (arith, below)), first ∙ (ap (λ (o : Option (List ℕ)). first_of o (names many)) one.2 ∙ first_stays oa (names one.0) (names many)))

pub removed_err : {T E : Type 0} (names : ℕ → List ℕ) (many : ℕ) (a b c : Seen) (fa fb fc : ℕ) (oa ob oc : Option (List ℕ)) (r : Result T E) (e : E) → HasRemoved names many a b fa fb oa ob r → Same b c → Rose fb fc → fb ≤ fc → oc ≡ first_of ob (names many)
    → (let answer : Result T E = Err e in HasRemoved names (many + 1) a c fa fc oa oc answer)
removed_err names many a b c fa fb fc oa ob oc r e p same rose up first = record {
  removes = removes_more names many a b c p.removes (KeepsFiles-Touches (names many) same.files) (on_same same.files.done) same.numbers;
  gone = tt;
  leaves = leaves_err names many a b c fa fb fc p.leaves same rose;
  faults = let before = p.faults.later in record { later = omega (arith, before, up); done = tt; failed = omega (arith, before, rose) };
  quiet = tt;
  first = names_more names many oa ob oc r p.quiet p.first first;
}
