-- Laws of what is told: how the steps of one file make one step.
use Rattle.std.specs.Prelude.{◌≡◌, ◌≢◌, ℕ, true, false, ◌||◌, ◌⊎◌, IsTrue, Contains, List, ◌∷◌, [], ◌++◌, take, Some, nat_eq, refl}
use Rattle.std.proofs.Common.{sym, ◌∙◌, ap, subst, inl, inr, append_assoc}
use Rattle.std.proofs.lemmas.List.{append-nil}
use Rattle.std.proofs.lemmas.Bool.Decides.{eqb_tells}
use Rattle.std.specs.Cmp.Lexicographic.{pointwise, same_text, other_text}
use mathlib.Core.List.{IsPrefix}
use Rattle.std.proofs.lemmas.List.Elements.{Contains-append_left, Contains-push}
use Rattle.daq_io.specs.declared.folder.FileState.{FileState}
use Rattle.daq_io.specs.declared.folder.FileState.TheVariants.{Closed}
use Rattle.daq_io.specs.Seen.{stored_as, stored_open, stored_closed, was_left, FileDone, GoesOn, Seen, InUse, IsFree, KeepsNumber, KeepsNumbers, KeepsOthers, Touches, KeepsFiles, Same, Creates, Writes, Extends, ExtendsPart, LeavesFile, Closes, Stores, StoresSo, Opens, Reads, Ends, IsWritten, IsStored, IsPartStored}

-- Frames

pub KeepsNumber-refl : (s : Seen) (n : ℕ) → KeepsNumber s s n
KeepsNumber-refl s n = record { writes = refl; reads = refl; name = λ h. refl; left = λ h. refl; given = λ h. refl }

-- a number in use stays in use
pub InUse-kept : {a b : Seen} {n : ℕ} → KeepsNumber a b n → InUse a n → InUse b n
InUse-kept p h = rw (p.writes, p.reads) h

pub KeepsNumber-trans : {a b c : Seen} {n : ℕ} → KeepsNumber a b n → KeepsNumber b c n → KeepsNumber a c n
KeepsNumber-trans p q = record {
  writes = q.writes ∙ p.writes;
  reads = q.reads ∙ p.reads;
  name = λ h. q.name (InUse-kept p h) ∙ p.name h;
  left = λ h. q.left (p.reads ∙ h) ∙ p.left h;
  given = λ h. q.given (p.writes ∙ h) ∙ p.given h;
}

-- a number that is free before and after tells nothing
pub KeepsNumber-free : {a b : Seen} {n : ℕ} → IsFree a n → IsFree b n → KeepsNumber a b n
KeepsNumber-free p q = record {
  writes = q.writes ∙ sym p.writes;
  reads = q.reads ∙ sym p.reads;
  name = λ h. absurd (not_in_use p h);
  left = λ h. let e : false ≡ true = sym p.reads ∙ h in cc;
  given = λ h. let e : false ≡ true = sym p.writes ∙ h in cc;
}
  where
    not_in_use : {s : Seen} {n : ℕ} → IsFree s n → ¬ InUse s n
    not_in_use p h = let e : false ≡ true = rw (p.writes, p.reads) at h in cc

pub KeepsNumbers-trans : {a b c : Seen} → KeepsNumbers a b → KeepsNumbers b c → KeepsNumbers a c
KeepsNumbers-trans p q = λ n. KeepsNumber-trans (p n) (q n)

pub KeepsOthers-trans : {a b c : Seen} {n : ℕ} → KeepsOthers a b n → KeepsOthers b c n → KeepsOthers a c n
KeepsOthers-trans p q = λ other ne. KeepsNumber-trans (p other ne) (q other ne)

-- every other number and this one are every number
pub KeepsNumbers-from : {a b : Seen} (n : ℕ) → KeepsOthers a b n → KeepsNumber a b n → KeepsNumbers a b
KeepsNumbers-from {a} {b} n others here = λ k. elim (eqb_tells k n) [ inl same ↦ subst (λ m. KeepsNumber a b m) (sym same.1) here | inr other ↦ others k other.1 ]

pub Touches-refl : (s : Seen) (name : List ℕ) → Touches s s name
Touches-refl s name = record { names = refl; others = λ other ne. refl }

pub Touches-trans : {a b c : Seen} {name : List ℕ} → Touches a b name → Touches b c name → Touches a c name
Touches-trans p q = record { names = q.names ∙ p.names; others = λ other ne. q.others other ne ∙ p.others other ne }

pub KeepsFiles-refl : (s : Seen) → KeepsFiles s s
KeepsFiles-refl s = record { names = refl; at = λ name. refl; done = refl }

pub KeepsFiles-trans : {a b c : Seen} → KeepsFiles a b → KeepsFiles b c → KeepsFiles a c
KeepsFiles-trans p q = record { names = q.names ∙ p.names; at = λ name. q.at name ∙ p.at name; done = q.done ∙ p.done }

-- no file changed, so at most that of one name did
pub KeepsFiles-Touches : {a b : Seen} (name : List ℕ) → KeepsFiles a b → Touches a b name
KeepsFiles-Touches name p = record { names = p.names; others = λ other ne. p.at other }

pub Same-refl : (s : Seen) → Same s s
Same-refl s = record { files = KeepsFiles-refl s; numbers = λ n. KeepsNumber-refl s n }

pub Same-trans : {a b c : Seen} → Same a b → Same b c → Same a c
Same-trans p q = record { files = KeepsFiles-trans p.files q.files; numbers = KeepsNumbers-trans p.numbers q.numbers }

-- What was done

-- where nothing was undone, what was done is there
pub done_on : {a b : Seen} {d : FileDone} → GoesOn a b → Contains a.done d → Contains b.done d
done_on {a} {b} {d} on there = subst (λ (l : List FileDone). Contains l d) on.done.1 (Contains-append_left a.done on.done.0 d there)

-- what was done last
pub done_last : (a b : Seen) (d : FileDone) → b.done ≡ a.done ++ d ∷ [] → Contains b.done d
done_last a b d is = subst (λ (l : List FileDone). Contains l d) (sym is) (Contains-push a.done d)

-- the ways in which more is done, or nothing
pub on_same : {a b : Seen} → b.done ≡ a.done → GoesOn a b
on_same {a} same = record { done = ([], append-nil a.done ∙ sym same) }

pub on_more : {a b : Seen} (ds : List FileDone) → b.done ≡ a.done ++ ds → GoesOn a b
on_more ds is = record { done = (ds, sym is) }

pub on_then : {a b c : Seen} → GoesOn a b → GoesOn b c → GoesOn a c
on_then {a} p q = record { done = (p.done.0 ++ q.done.0, sym (append_assoc a.done p.done.0 q.done.0) ∙ (ap (λ (l : List FileDone). l ++ q.done.0) p.done.1 ∙ q.done.1)) }

-- Writing

in_use_writing : (s : Seen) (n : ℕ) → IsTrue (s.writes n) → InUse s n
in_use_writing s n h = rw h refl

-- the file of a number that is being written keeps its name
pub Extends-name : {a b : Seen} {n : ℕ} {xs : List ℕ} → Extends a b n xs → b.name_of n ≡ a.name_of n
Extends-name p = p.wrote.named

-- a number that is being written stays so
pub Writes-writes : {a b : Seen} {n : ℕ} {xs : List ℕ} → Writes a b n xs → IsTrue (b.writes n)
Writes-writes p = p.still ∙ p.writes

pub Extends-writes : {a b : Seen} {n : ℕ} {xs : List ℕ} → Extends a b n xs → IsTrue (b.writes n)
Extends-writes p = Writes-writes p.wrote

pub Writes-refl : (s : Seen) (n : ℕ) → IsTrue (s.writes n) → Writes s s n []
Writes-refl s n h = record {
  writes = h;
  touches = Touches-refl s (s.name_of n);
  others = λ k ne. KeepsNumber-refl s k;
  still = refl;
  reads = refl;
  named = refl;
  left = λ read. refl;
  done = refl;
  holds = λ told so_far here. rw (append-nil so_far) here;
}

pub Extends-refl : (s : Seen) (n : ℕ) → IsTrue (s.writes n) → Extends s s n []
Extends-refl s n h = record { wrote = Writes-refl s n h; given = sym (append-nil (s.given n)) }

pub Writes-trans : {a b c : Seen} {n : ℕ} {xs ys : List ℕ} → Writes a b n xs → Writes b c n ys → Writes a c n (xs ++ ys)
Writes-trans {a} {b} {c} {n} {xs} {ys} p q = record {
  writes = p.writes;
  touches = Touches-trans p.touches (subst (λ m. Touches b c m) p.named q.touches);
  others = KeepsOthers-trans p.others q.others;
  still = q.still ∙ p.still;
  reads = q.reads ∙ p.reads;
  named = q.named ∙ p.named;
  left = λ read. q.left (p.reads ∙ read) ∙ p.left read;
  done = q.done ∙ p.done;
  holds = λ told so_far here. rw (← append_assoc so_far xs ys) (subst (λ m. c.at m ≡ Some (stored_open ((so_far ++ xs) ++ ys))) p.named
      (q.holds (p.touches.names ∙ told) (so_far ++ xs) (subst (λ m. b.at m ≡ Some (stored_open (so_far ++ xs))) (sym p.named) (p.holds told so_far here))));
}

pub Extends-trans : {a b c : Seen} {n : ℕ} {xs ys : List ℕ} → Extends a b n xs → Extends b c n ys → Extends a c n (xs ++ ys)
Extends-trans {a} {b} {c} {n} {xs} {ys} p q = record {
  wrote = Writes-trans p.wrote q.wrote;
  given = q.given ∙ (ap (λ (l : List ℕ). l ++ ys) p.given ∙ append_assoc (a.given n) xs ys);
}

pub Creates-Extends : {a b c : Seen} {name : List ℕ} {n : ℕ} {xs ys : List ℕ} → Creates a b name n xs → Extends b c n ys → Creates a c name n (xs ++ ys)
Creates-Extends {a} {b} {c} {name} {n} {xs} {ys} p q = record {
  touches = Touches-trans p.touches (subst (λ m. Touches b c m) p.named q.wrote.touches);
  others = KeepsOthers-trans p.others q.wrote.others;
  was_free = p.was_free;
  writes = Extends-writes q;
  reads = q.wrote.reads ∙ p.reads;
  named = q.wrote.named ∙ p.named;
  given = q.given ∙ ap (λ (l : List ℕ). l ++ ys) p.given;
  done = q.wrote.done ∙ p.done;
  fresh = p.fresh;
  holds = λ told. subst (λ m. c.at m ≡ Some (stored_open (xs ++ ys))) p.named
      (q.wrote.holds (p.touches.names ∙ told) xs (subst (λ m. b.at m ≡ Some (stored_open xs)) (sym p.named) (p.holds told)));
}

-- Closing

-- what follows behind more stands behind all of it
longer_prefix : (xs ys zs has : List ℕ) → IsPrefix zs (xs ++ ys) → (more : List ℕ) → IsPrefix has (zs ++ more) → (more ≡ []) → IsPrefix has (xs ++ ys)
longer_prefix xs ys zs has p more q none =
    (q.0 ++ p.0, sym (append_assoc has q.0 p.0) ∙ (ap (λ (l : List ℕ). l ++ p.0) (q.1 ∙ (ap (λ (l : List ℕ). zs ++ l) none ∙ append-nil zs)) ∙ p.1))

-- a file that grew and was left was left so with more
pub Writes-Leaves : {a b c : Seen} {n : ℕ} {state : FileState} {xs ys : List ℕ} → Writes a b n xs → (leaves : LeavesFile b c n state ys) → IsPrefix leaves.has (a.given n ++ (xs ++ ys)) → LeavesFile a c n state (xs ++ ys)
Writes-Leaves {a} {b} {c} {n} {state} {xs} {ys} p q part = record {
  writes = p.writes;
  touches = Touches-trans p.touches (subst (λ m. Touches b c m) p.named q.touches);
  others = KeepsOthers-trans p.others q.others;
  free = q.free;
  closed = q.closed;
  holds = λ told so_far here. rw (← append_assoc so_far xs ys) (subst (λ m. c.at m ≡ Some (stored_as state ((so_far ++ xs) ++ ys))) p.named
      (q.holds (p.touches.names ∙ told) (so_far ++ xs) (subst (λ m. b.at m ≡ Some (stored_open (so_far ++ xs))) (sym p.named) (p.holds told so_far here))));
  has = q.has;
  part = part;
  done = q.done ∙ (ap (λ (l : List FileDone). l ++ was_left (b.name_of n) (stored_as state q.has) ∷ []) p.done ∙ ap (λ (name : List ℕ). a.done ++ was_left name (stored_as state q.has) ∷ []) p.named);
}

pub Extends-Leaves : {a b c : Seen} {n : ℕ} {state : FileState} {xs ys : List ℕ} → Extends a b n xs → LeavesFile b c n state ys → LeavesFile a c n state (xs ++ ys)
Extends-Leaves {a} {b} {c} {n} {state} {xs} {ys} p q =
    Writes-Leaves p.wrote q (subst (λ (all : List ℕ). IsPrefix q.has all) (ap (λ (l : List ℕ). l ++ ys) p.given ∙ append_assoc (a.given n) xs ys) q.part)

pub Extends-Closes : {a b c : Seen} {n : ℕ} {state : FileState} {xs ys : List ℕ} → Extends a b n xs → Closes b c n state ys → Closes a c n state (xs ++ ys)
unfolding Extends-Leaves Writes-Leaves
Extends-Closes {a} {b} {c} {n} {state} {xs} {ys} p q = record {
  leaves = Extends-Leaves p q.leaves;
  whole = λ closed. q.whole closed ∙ (ap (λ (l : List ℕ). l ++ ys) p.given ∙ append_assoc (a.given n) xs ys);
}

-- a file that grew by a part and was closed was left with a part
pub ExtendsPart-Closes : {a b c : Seen} {n : ℕ} {state : FileState} {xs : List ℕ} → (part : ExtendsPart a b n xs) → Closes b c n state [] → LeavesFile a c n state (take part.count xs)
ExtendsPart-Closes {a} {b} {c} {n} {state} {xs} p q =
    let bytes : List ℕ = take p.count xs in
    subst (λ (l : List ℕ). LeavesFile a c n state l) (append-nil bytes)
    (Writes-Leaves p.wrote q.leaves (subst (λ (l : List ℕ). IsPrefix q.leaves.has (a.given n ++ l)) (sym (append-nil bytes))
    (longer_prefix (a.given n) bytes (b.given n) q.leaves.has p.given [] q.leaves.part refl)))

-- a file that was made and left is stored, whole or in part, and no number more is in use
pub Creates-Leaves : {a b c : Seen} {name : List ℕ} {n : ℕ} {state : FileState} {xs ys : List ℕ} → Creates a b name n xs → LeavesFile b c n state ys → StoresSo a c name state (xs ++ ys)
Creates-Leaves {a} {b} {c} {name} {n} {state} {xs} {ys} p q = record {
  touches = Touches-trans p.touches (subst (λ m. Touches b c m) p.named q.touches);
  numbers = KeepsNumbers-from n (KeepsOthers-trans p.others q.others) (KeepsNumber-free p.was_free q.free);
  closed = q.closed;
  fresh = p.fresh;
  holds = λ told. subst (λ m. c.at m ≡ Some (stored_as state (xs ++ ys))) p.named
      (q.holds (p.touches.names ∙ told) xs (subst (λ m. b.at m ≡ Some (stored_open xs)) (sym p.named) (p.holds told)));
  has = q.has;
  part = subst (λ (l : List ℕ). IsPrefix q.has (l ++ ys)) p.given q.part;
  done = q.done ∙ (ap (λ (l : List FileDone). l ++ was_left (b.name_of n) (stored_as state q.has) ∷ []) p.done ∙ ap (λ (m : List ℕ). a.done ++ was_left m (stored_as state q.has) ∷ []) p.named);
}

-- so is one that was made and closed whole, with all
pub Creates-Closes : {a b c : Seen} {name : List ℕ} {n : ℕ} {xs ys : List ℕ} → Creates a b name n xs → Closes b c n Closed ys → Stores a c name (xs ++ ys)
unfolding Creates-Leaves
Creates-Closes {a} {b} {c} {name} {n} {xs} {ys} p q = record { so = Creates-Leaves p q.leaves; whole = q.whole refl ∙ ap (λ (l : List ℕ). l ++ ys) p.given }

-- what was stored is stored
pub Stores-IsStored : {a b : Seen} {name xs : List ℕ} → Stores a b name xs → IsStored b name xs
Stores-IsStored {a} {b} {name} {xs} p = record {
  written = subst (λ (l : List ℕ). Contains b.done (was_left name (stored_closed l))) p.whole (done_last a b (was_left name (stored_closed p.so.has)) p.so.done);
  holds = λ told. p.so.holds (sym p.so.touches.names ∙ told);
}

-- two names are the same or not
pub name_tells : (x y : List ℕ) → (x ≡ y) ⊎ (x ≢ y)
name_tells x y = elim (pointwise nat_eq x y) as (λ w. w ≡ pointwise nat_eq x y → (x ≡ y) ⊎ (x ≢ y)) [ true ↦ λ e. inl (same_text x y e) | false ↦ λ e. inr (other_text x y e) ] refl

-- Reading

in_use_reading : (s : Seen) (n : ℕ) → IsTrue (s.reads n) → InUse s n
in_use_reading s n h = elim (s.writes n) as (λ w. IsTrue (w || s.reads n)) [ true ↦ refl | false ↦ h ]

pub Reads-refl : (s : Seen) (n : ℕ) → IsTrue (s.reads n) → Reads s s n []
Reads-refl s n h = record {
  files = KeepsFiles-refl s;
  others = λ other ne. KeepsNumber-refl s other;
  was_read = h;
  writes = refl;
  reads = h;
  name = refl;
  consumes = λ told. refl;
}

pub Reads-trans : {a b c : Seen} {n : ℕ} {xs ys : List ℕ} → Reads a b n xs → Reads b c n ys → Reads a c n (xs ++ ys)
Reads-trans {a} {b} {c} {n} {xs} {ys} p q = record {
  files = KeepsFiles-trans p.files q.files;
  others = KeepsOthers-trans p.others q.others;
  was_read = p.was_read;
  writes = q.writes ∙ p.writes;
  reads = q.reads;
  name = q.name ∙ p.name;
  consumes = λ told. p.consumes told ∙ (ap (λ left. xs ++ left) (q.consumes (p.files.names ∙ told)) ∙ sym (append_assoc xs ys (c.left n)));
}

-- nothing that is told changed, so no byte was read
pub Reads-Same : {a b c : Seen} {n : ℕ} {xs : List ℕ} → Reads a b n xs → Same b c → Reads a c n xs
Reads-Same {a} {b} {c} {n} {xs} p q = record {
  files = KeepsFiles-trans p.files q.files;
  others = KeepsOthers-trans p.others (λ other ne. q.numbers other);
  was_read = p.was_read;
  writes = (q.numbers n).writes ∙ p.writes;
  reads = (q.numbers n).reads ∙ p.reads;
  name = (q.numbers n).name (in_use_reading b n p.reads) ∙ p.name;
  consumes = λ told. p.consumes told ∙ ap (λ left. xs ++ left) (sym ((q.numbers n).left p.reads));
}

pub Opens-Reads : {a b c : Seen} {name : List ℕ} {n : ℕ} {xs ys : List ℕ} → Opens a b name n xs → Reads b c n ys → Opens a c name n (xs ++ ys)
Opens-Reads {a} {b} {c} {name} {n} {xs} {ys} p q = record {
  files = KeepsFiles-trans p.files q.files;
  others = KeepsOthers-trans p.others q.others;
  was_free = p.was_free;
  writes = q.writes ∙ p.writes;
  reads = q.reads;
  named = q.name ∙ p.named;
  there = p.there;
  holds = λ told file here. p.holds told file here ∙ (ap (λ left. xs ++ left) (q.consumes (p.files.names ∙ told)) ∙ sym (append_assoc xs ys (c.left n)));
}

-- a file that was opened and closed leaves all as it was
pub Opens-Ends : {a b c : Seen} {name : List ℕ} {n : ℕ} {xs : List ℕ} → Opens a b name n xs → Ends b c n → Same a c
Opens-Ends {a} {b} {c} {name} {n} p q = record {
  files = KeepsFiles-trans p.files q.files;
  numbers = KeepsNumbers-from n (KeepsOthers-trans p.others q.others) (KeepsNumber-free p.was_free q.free);
}

-- One file among others

-- a file that was made is being written
pub Creates-IsWritten : {a b : Seen} {name : List ℕ} {n : ℕ} {xs : List ℕ} → Creates a b name n xs → IsWritten b n name xs
Creates-IsWritten {a} {b} p = record { writes = p.writes; named = p.named; given = p.given; holds = λ told. p.holds (sym p.touches.names ∙ told) }

-- it grows by what is appended
pub IsWritten-Extends : {a b : Seen} {name : List ℕ} {n : ℕ} {xs ys : List ℕ} → IsWritten a n name xs → Extends a b n ys → IsWritten b n name (xs ++ ys)
IsWritten-Extends {a} {b} {name} {n} {xs} {ys} p q = record {
  writes = Extends-writes q;
  named = Extends-name q ∙ p.named;
  given = q.given ∙ ap (λ (l : List ℕ). l ++ ys) p.given;
  holds = λ told. let before : IsTrue a.names = sym q.wrote.touches.names ∙ told in
      subst (λ m. b.at m ≡ Some (stored_open (xs ++ ys))) p.named (q.wrote.holds before xs (subst (λ m. a.at m ≡ Some (stored_open xs)) (sym p.named) (p.holds before)));
}

-- a call on another file and another number leaves it
pub IsWritten-elsewhere : {a b : Seen} {name other : List ℕ} {n : ℕ} {xs : List ℕ} → IsWritten a n name xs → Touches a b other → name ≢ other → KeepsNumber a b n → IsWritten b n name xs
IsWritten-elsewhere {a} {b} {name} {other} {n} p touches ne number = record {
  writes = number.writes ∙ p.writes;
  named = number.name (in_use_writing a n p.writes) ∙ p.named;
  given = number.given p.writes ∙ p.given;
  holds = λ told. touches.others name ne ∙ p.holds (sym touches.names ∙ told);
}

-- it is closed with what it has
pub IsWritten-Closes : {a b : Seen} {name : List ℕ} {n : ℕ} {xs ys : List ℕ} → IsWritten a n name xs → Closes a b n Closed ys → IsStored b name (xs ++ ys)
IsWritten-Closes {a} {b} {name} {n} {xs} {ys} p q = record {
  written =
      let has : q.leaves.has ≡ xs ++ ys = q.whole refl ∙ ap (λ (l : List ℕ). l ++ ys) p.given in
      let is : FileDone = was_left (a.name_of n) (stored_closed q.leaves.has) in
      subst (λ (m : List ℕ). Contains b.done (was_left m (stored_closed (xs ++ ys)))) p.named
      (subst (λ (l : List ℕ). Contains b.done (was_left (a.name_of n) (stored_closed l))) has (done_last a b is q.leaves.done));
  holds = λ told. let before : IsTrue a.names = sym q.leaves.touches.names ∙ told in
      subst (λ m. b.at m ≡ Some (stored_closed (xs ++ ys))) p.named (q.leaves.holds before xs (subst (λ m. a.at m ≡ Some (stored_open xs)) (sym p.named) (p.holds before)));
}

-- it is left, whole or in vain, with a first part of what it has
pub IsWritten-Leaves : {a b : Seen} {name : List ℕ} {n : ℕ} {state : FileState} {xs ys whole : List ℕ} → IsWritten a n name xs → LeavesFile a b n state ys → IsPrefix (xs ++ ys) whole → IsPartStored b name whole
IsWritten-Leaves {a} {b} {name} {n} {state} {xs} {ys} {whole} p q front = record {
  state = state;
  closed = q.closed;
  has = q.has;
  part =
      let here : IsPrefix q.has (xs ++ ys) = subst (λ (l : List ℕ). IsPrefix q.has (l ++ ys)) p.given q.part in
      (here.0 ++ front.0, sym (append_assoc q.has here.0 front.0) ∙ (ap (λ (l : List ℕ). l ++ front.0) here.1 ∙ front.1));
  written =
      subst (λ (m : List ℕ). Contains b.done (was_left m (stored_as state q.has))) p.named
      (done_last a b (was_left (a.name_of n) (stored_as state q.has)) q.done);
  bytes = xs ++ ys;
  front = front;
  holds = λ told. let before : IsTrue a.names = sym q.touches.names ∙ told in
      subst (λ m. b.at m ≡ Some (stored_as state (xs ++ ys))) p.named (q.holds before xs (subst (λ m. a.at m ≡ Some (stored_open xs)) (sym p.named) (p.holds before)));
}

-- a call on another file leaves a closed one
pub IsStored-elsewhere : {a b : Seen} {name other : List ℕ} {xs : List ℕ} → IsStored a name xs → Touches a b other → GoesOn a b → name ≢ other → IsStored b name xs
IsStored-elsewhere {name = name} p touches on ne = record { written = done_on on p.written; holds = λ told. touches.others name ne ∙ p.holds (sym touches.names ∙ told) }
