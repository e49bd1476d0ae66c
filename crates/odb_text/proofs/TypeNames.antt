-- A text names one type at the most.
use Rattle.std.proofs.Common.{◌≡◌, ℕ, cond, List, [], ◌∷◌, Option, Some, None, refl, sym, ◌∙◌, subst, ⊎_elim}
use Rattle.std.specs.Prelude.{codes}
use Rattle.std.specs.Str.{bytes_eq}
use Rattle.daq_types.specs.declared.types.Tid.{Tid}
use Rattle.daq_types.specs.declared.types.Tid.TheVariants.{UInt8, Int8, Char, UInt16, Int16, UInt32, Int32, Bool as Truth, Float, Double, BitField, Text, Array, Struct, Key, Link, Int64, UInt64}
use Rattle.daq_types.specs.Tids.{tid_name, tid_older_name, IsNamed}

record Entry : Type 0 where
  name : List ℕ
  type : Tid

abbrev entry : List ℕ → Tid → Entry
entry n t = record { name = n; type = t }

abbrev lookup : List ℕ → List Entry → Option Tid
lookup w [] = None
lookup w (e ∷ es) = cond (bytes_eq e.name w) (Some e.type) (lookup w es)

abbrev table : List Entry
table =
    entry (codes "UINT8") UInt8 ∷ entry (codes "INT8") Int8 ∷ entry (codes "CHAR") Char ∷ entry (codes "UINT16") UInt16 ∷ entry (codes "INT16") Int16 ∷ entry (codes "UINT32") UInt32
    ∷ entry (codes "INT32") Int32 ∷ entry (codes "BOOL") Truth ∷ entry (codes "FLOAT") Float ∷ entry (codes "DOUBLE") Double ∷ entry (codes "BITFIELD") BitField ∷ entry (codes "STRING") Text
    ∷ entry (codes "ARRAY") Array ∷ entry (codes "STRUCT") Struct ∷ entry (codes "KEY") Key ∷ entry (codes "LINK") Link ∷ entry (codes "INT64") Int64 ∷ entry (codes "UINT64") UInt64
    ∷ entry (codes "BYTE") UInt8 ∷ entry (codes "SBYTE") Int8 ∷ entry (codes "WORD") UInt16 ∷ entry (codes "SHORT") Int16 ∷ entry (codes "DWORD") UInt32 ∷ entry (codes "INT") Int32 ∷ []

own_name : (t : Tid) → lookup (tid_name t) table ≡ Some t
own_name UInt8 = refl
own_name Int8 = refl
own_name Char = refl
own_name UInt16 = refl
own_name Int16 = refl
own_name UInt32 = refl
own_name Int32 = refl
own_name Truth = refl
own_name Float = refl
own_name Double = refl
own_name BitField = refl
own_name Text = refl
own_name Array = refl
own_name Struct = refl
own_name Key = refl
own_name Link = refl
own_name Int64 = refl
own_name UInt64 = refl

by_name : (t : Tid) (name w : List ℕ) → lookup name table ≡ Some t → Some name ≡ Some w → lookup w table ≡ Some t
by_name t name w h e = let same : name ≡ w = cc in subst (λ (l : List ℕ). lookup l table ≡ Some t) same h

no_older : (t : Tid) (w : List ℕ) → None ≡ Some w → lookup w table ≡ Some t
no_older t w e = absurd (cc)

older_name : (t : Tid) (w : List ℕ) → tid_older_name t ≡ Some w → lookup w table ≡ Some t
older_name UInt8 w e = by_name UInt8 (codes "BYTE") w refl e
older_name Int8 w e = by_name Int8 (codes "SBYTE") w refl e
older_name Char w e = no_older Char w e
older_name UInt16 w e = by_name UInt16 (codes "WORD") w refl e
older_name Int16 w e = by_name Int16 (codes "SHORT") w refl e
older_name UInt32 w e = by_name UInt32 (codes "DWORD") w refl e
older_name Int32 w e = by_name Int32 (codes "INT") w refl e
older_name Truth w e = no_older Truth w e
older_name Float w e = no_older Float w e
older_name Double w e = no_older Double w e
older_name BitField w e = no_older BitField w e
older_name Text w e = no_older Text w e
older_name Array w e = no_older Array w e
older_name Struct w e = no_older Struct w e
older_name Key w e = no_older Key w e
older_name Link w e = no_older Link w e
older_name Int64 w e = no_older Int64 w e
older_name UInt64 w e = no_older UInt64 w e

found : (w : List ℕ) (t : Tid) → IsNamed w t → lookup w table ≡ Some t
found w t h = ⊎_elim (λ (e : tid_name t ≡ w). subst (λ (l : List ℕ). lookup l table ≡ Some t) e (own_name t)) (older_name t w) h

pub named_once : (w : List ℕ) (t u : Tid) → IsNamed w t → IsNamed w u → t ≡ u
named_once w t u h k = let e : ◌≡◌ {A = Option Tid} (Some t) (Some u) = sym (found w t h) ∙ found w u k in cc
