-- A port's own calls grow by calls of which each is so.
use Rattle.std.proofs.Common.{◌≡◌, List, [], ◌∷◌, ◌++◌, ap, sym, ◌∙◌, subst, append_assoc}
use Rattle.std.specs.List.{AllByRecursion}
use Rattle.std.proofs.lemmas.List.{append-nil}
use Rattle.odb_watch.specs.declared.entry.WatchEntry.{WatchEntry}
use Rattle.odb_watch.specs.DatabasePorts.{DatabaseAccess, own_watched}

pub all_both : (P : WatchEntry → Type 0) (one other : List WatchEntry) → AllByRecursion P one → AllByRecursion P other → AllByRecursion P (one ++ other)
all_both P [] other first second = second
all_both P (e ∷ one) other first second = (first.0, all_both P one other first.1 second)

-- The caller's own calls are more, and those are so.
abbrev pub CallsOn : (P : WatchEntry → Type 0) → (a b : DatabaseAccess) → Type 0
CallsOn P a b = (more : List WatchEntry) × (own_watched b ≡ own_watched a ++ more) × AllByRecursion P more

pub none_on : (P : WatchEntry → Type 0) (a b : DatabaseAccess) → b ≡ a → CallsOn P a b
none_on P a b same = ([], ap own_watched same ∙ sym (append-nil (own_watched a)), tt)

pub both_on : (P : WatchEntry → Type 0) (a b c : DatabaseAccess) → CallsOn P a b → CallsOn P b c → CallsOn P a c
both_on P a b c ab bc = (
  ab.0 ++ bc.0,
  bc.1 ∙ (ap (λ (xs : List WatchEntry). xs ++ bc.0) ab.1 ∙ append_assoc (own_watched a) ab.0 bc.0),
  all_both P ab.0 bc.0 ab.2 bc.2,
)

-- where all before were so, all are
pub all_on : (P : WatchEntry → Type 0) (a b : DatabaseAccess) → CallsOn P a b → AllByRecursion P (own_watched a) → AllByRecursion P (own_watched b)
all_on P a b on all = subst (AllByRecursion P) (sym on.1) (all_both P (own_watched a) on.0 all on.2)
