-- The keys of one front-end more.
use Rattle.std.proofs.Common.{◌≡◌, ◌<◌, ℕ, ◌+◌, List, [], ◌∷◌, ◌++◌, length, take, get_or, refl, ap, sym, subst, ◌∙◌}
use Rattle.std.specs.Prelude.{Result}
use Rattle.std.proofs.lemmas.List.{take_more}
use Rattle.odb_tree.specs.declared.entry.DatabaseEntry.{DatabaseEntry}
use Rattle.odb_tree.specs.declared.refusals.OdbRefusal.{OdbRefusal}
use Rattle.odb_watch.specs.DatabasePorts.{AddsCall, AddsCalls, DatabaseAccess, IsSettled}
use Rattle.odb_runinfo.specs.RunSets.{sent_key_made}
use Rattle.session_commands.specs.RunLines.{MakesKeys}

pub take_next : {A : Type 0} (xs : List A) (i : ℕ) (x : A) → i < length xs → x ≡ get_or xs i x → take (i + 1) xs ≡ take i xs ++ x ∷ []
take_next {A} xs i x within is = take_more xs i x within ∙ ap (λ (z : A). take i xs ++ z ∷ []) (sym is)

pub keys_more : (fronts : List (List ℕ)) (calls : List DatabaseEntry) (name : List ℕ) (reply : Result ℕ OdbRefusal) → IsSettled reply → MakesKeys fronts calls → MakesKeys (fronts ++ name ∷ []) (calls ++ sent_key_made name reply ∷ [])
keys_more [] calls name reply settled makes = (reply, [], settled, ap (λ (cs : List DatabaseEntry). cs ++ sent_key_made name reply ∷ []) makes, refl)
keys_more (front ∷ fronts) calls name reply settled makes =
    (makes.0, makes.1 ++ sent_key_made name reply ∷ [], makes.2, ap (λ (cs : List DatabaseEntry). cs ++ sent_key_made name reply ∷ []) makes.3, keys_more fronts makes.1 name reply settled makes.4)

pub calls_more : (calls : List DatabaseEntry) (a b c : DatabaseAccess) (entry : DatabaseEntry) → AddsCalls a b calls → AddsCall b c entry → AddsCalls a c (calls ++ entry ∷ [])
calls_more [] a b c entry same adds = (c, subst (λ (x : DatabaseAccess). AddsCall x c entry) same adds, refl)
calls_more (call ∷ calls) a b c entry all adds = (all.0, all.1, calls_more calls all.0 b c entry all.2 adds)
