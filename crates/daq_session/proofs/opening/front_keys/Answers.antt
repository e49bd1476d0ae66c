use Rattle.std.proofs.Common.{ℕ, List, [], refl, inl}
use Rattle.std.specs.Prelude.{Result, Ok, Err, OnErr}
use Rattle.odb_watch.specs.DatabasePorts.{DatabaseAccess}
use Rattle.odb_lock.specs.SharedAccesses.{access_by_pass}
use Rattle.session_setup.specs.Setup.{declared_by}
use Rattle.session_commands.specs.Stages.{front_names}
use Rattle.session_commands.specs.RunLines.{CutsKeys}
use Rattle.daq_session.proofs.opening.front_keys.Goals as goal

on_err_so : {T E : Type 0} (r : Result T E) (P : Type 0) → P → OnErr r P
on_err_so (Ok x) P p = tt
on_err_so (Err e) P p = p

none_made : (fronts : List (List ℕ)) (access : DatabaseAccess) → CutsKeys fronts access access
none_made fronts access = record {
  count = 0;
  keys = [];
  makes = refl;
  between = access;
  adds = refl;
  next = inl refl;
}

pub returns-in_err-names-clause-cut : goal.returns-in_err-names-clause-cut
returns-in_err-names-clause-cut g c = on_err_so _ _ (none_made (front_names (declared_by c.args.lists.now)) (access_by_pass c.args.access.now))

pub returns-in_err-names-clause-same : goal.returns-in_err-names-clause-same
returns-in_err-names-clause-same g c = record { database = refl; caller = refl }

pub returns-clause-made : goal.returns-clause-made
returns-clause-made g c = rw (c.as_slice.ensures, c.in_ok-names.ensures) at c.make_keys.ensures.made

pub returns-clause-cut : goal.returns-clause-cut
returns-clause-cut g c = rw (c.as_slice.ensures, c.in_ok-names.ensures) at c.make_keys.ensures.cut
