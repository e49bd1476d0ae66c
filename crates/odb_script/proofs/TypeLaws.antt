-- The type that a text names is the one of which it is the name or the older name.
use Rattle.std.specs.Prelude.{◌≡◌, ℕ, Bool, true, false, ◌||◌, List, [], ◌∷◌, Option, Some, None, IfSome, IfNone, codes, refl}
use Rattle.std.proofs.Common.{◌⊎◌, subst, ap, cond, inl, inr}
use Rattle.std.specs.List.{find}
use Rattle.std.proofs.lemmas.Slice.Eq.{bytes_eq-Decides}
use Rattle.daq_types.specs.declared.types.Tid.{Tid}
use Rattle.daq_types.specs.declared.types.Tid.TheVariants.{UInt8, Int8, Char, UInt16, Int16, UInt32, Int32, Bool as Truth, Float, Double, BitField, Text, Array, Struct, Key, Link, Int64, UInt64}
use Rattle.daq_types.specs.Tids.{tid_name, tid_older_name, IsNamed}
use Rattle.odb_script.specs.TypeNames.{is_text, is_some_text, names_type, every_type, type_named}

-- by its own name
own_name : (t : Tid) → Some t ≡ type_named (tid_name t)
unfolding type_named
own_name UInt8 = refl
own_name Int8 = refl
own_name Char = refl
own_name UInt16 = refl
own_name Int16 = refl
own_name UInt32 = refl
own_name Int32 = refl
own_name Truth = refl
own_name Float = refl
own_name Double = refl
own_name BitField = refl
own_name Text = refl
own_name Array = refl
own_name Struct = refl
own_name Key = refl
own_name Link = refl
own_name Int64 = refl
own_name UInt64 = refl

-- by an older name
older : (t : Tid) (name text : List ℕ) → Some t ≡ type_named name → Some name ≡ Some text → Some t ≡ type_named text
older t name text h e = let same : name ≡ text = cc in subst (λ s. Some t ≡ type_named s) same h

no_older : (t : Tid) (text : List ℕ) → None ≡ Some text → Some t ≡ type_named text
no_older t text e = cc

older_name : (t : Tid) (text : List ℕ) → tid_older_name t ≡ Some text → Some t ≡ type_named text
unfolding type_named
older_name UInt8 text e = older UInt8 (codes "BYTE") text refl e
older_name Int8 text e = older Int8 (codes "SBYTE") text refl e
older_name Char text e = no_older Char text e
older_name UInt16 text e = older UInt16 (codes "WORD") text refl e
older_name Int16 text e = older Int16 (codes "SHORT") text refl e
older_name UInt32 text e = older UInt32 (codes "DWORD") text refl e
older_name Int32 text e = older Int32 (codes "INT") text refl e
older_name Truth text e = no_older Truth text e
older_name Float text e = no_older Float text e
older_name Double text e = no_older Double text e
older_name BitField text e = no_older BitField text e
older_name Text text e = no_older Text text e
older_name Array text e = no_older Array text e
older_name Struct text e = no_older Struct text e
older_name Key text e = no_older Key text e
older_name Link text e = no_older Link text e
older_name Int64 text e = no_older Int64 text e
older_name UInt64 text e = no_older UInt64 text e

-- what is found passes the test
find_passes : {A : Type 0} (test : A → Bool) (xs : List A) (x : A) → find test xs ≡ Some x → test x ≡ true
find_passes test [] x e = cc
find_passes test (y ∷ ys) x e =
    elim (test y) as (λ b. test y ≡ b → cond b (Some y) (find test ys) ≡ Some x → test x ≡ true)
    [ true ↦ (λ passes found. let same : y ≡ x = cc in subst (λ z. test z ≡ true) same passes) | false ↦ (λ fails found. find_passes test ys x found) ]
    refl e

either : (a b : Bool) → (a || b) ≡ true → (a ≡ true) ⊎ (b ≡ true)
either true b e = inl refl
either false b e = inr e

is_some_older : (older : Option (List ℕ)) (text : List ℕ) → is_some_text older text ≡ true → older ≡ Some text
is_some_older None text e = cc
is_some_older (Some name) text e = ap Some ((bytes_eq-Decides name text).0 e)

names : (text : List ℕ) (t : Tid) → names_type text t ≡ true → IsNamed text t
names text t e =
    elim (either (is_text (tid_name t) text) (is_some_text (tid_older_name t) text) e)
    [ inl own ↦ inl ((bytes_eq-Decides (tid_name t) text).0 own) | inr old ↦ inr (is_some_older (tid_older_name t) text old) ]

none_named : (text : List ℕ) (found : Option Tid) → ((t : Tid) → found ≡ Some t → ⊥) → None ≡ found
none_named text None h = refl
none_named text (Some t) h = absurd (h t refl)

pub type_named_is : (text : List ℕ) (found : Option Tid) → IfSome found (IsNamed text) → IfNone found ((t : Tid) → ¬ (IsNamed text t)) → found ≡ type_named text
unfolding type_named
type_named_is text (Some t) h none =
    elim h [ inl own ↦ subst (λ s. Some t ≡ type_named s) own (own_name t) | inr old ↦ older_name t text old ]
type_named_is text None h none =
    none_named text (find (names_type text) every_type) (λ t found. none t (names text t (find_passes (names_type text) every_type t found)))
