-- Laws of histories of a database.
use Rattle.std.specs.Prelude.{◌≡◌, ℕ, List, [], ◌∷◌, ◌++◌, refl}
use Rattle.std.proofs.Common.{ap, ◌∙◌, sym, subst}
use Rattle.odb_tree.specs.declared.entry.DatabaseEntry.{DatabaseEntry}
use Rattle.odb_tree.specs.Rows.{Rows}
use Rattle.odb_tree.specs.Calls.{IsRowsReply, rows_after}
use Rattle.odb_tree.specs.Histories.{IsCaller, IsLegalCall, IsLegalRows, rows_replay}
use Rattle.odb_tree.specs.Databases.{IsSoundCall}
use Rattle.odb_journal.specs.Noted.{Noted, IsNoted}

-- one call more at the end
pub rows_replay-push : (s : Rows) (h : List (ℕ × DatabaseEntry)) (by : ℕ) (e : DatabaseEntry) → rows_replay s (h ++ (by, e) ∷ []) ≡ rows_after (rows_replay s h) e
rows_replay-push s [] by e = refl
rows_replay-push s (x ∷ h) by e = rows_replay-push (rows_after s x.1) h by e

pub legal_push : (s : Rows) (h : List (ℕ × DatabaseEntry)) (by : ℕ) (e : DatabaseEntry) → IsLegalRows s h → IsLegalCall (rows_replay s h) by e → IsLegalRows s (h ++ (by, e) ∷ [])
legal_push s [] by e legal call = (call, tt)
legal_push s (x ∷ h) by e legal call = (legal.0, legal_push (rows_after s x.1) h by e legal.1 call)

-- a journal with one call more
pub noted_next : (p q : Noted) (by : ℕ) (e : DatabaseEntry) → IsNoted p → IsCaller by e → IsSoundCall e → IsRowsReply p.rows e → q.rows ≡ rows_after p.rows e → q.history ≡ p.history ++ (by, e) ∷ [] → q.start ≡ p.start → IsNoted q
noted_next p q by e is caller sound reply after grown start =
    let at : IsRowsReply (rows_replay p.start p.history) e = subst (λ (s : Rows). IsRowsReply s e) is.replayed reply in
    let legal : IsLegalRows p.start (p.history ++ (by, e) ∷ []) = legal_push p.start p.history by e is.legal (record { may = caller; sound = sound; reply = at }) in
    let replayed : q.rows ≡ rows_replay p.start (p.history ++ (by, e) ∷ []) = after ∙ ap (λ (s : Rows). rows_after s e) is.replayed ∙ sym (rows_replay-push p.start p.history by e) in
    record {
      database = rw start is.database;
      legal = rw start (rw grown legal);
      replayed = rw start (rw grown replayed);
    }
