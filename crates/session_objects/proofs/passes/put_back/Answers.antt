use Rattle.session_objects.proofs.passes.put_back.Goals as goal

pub returns : goal.returns
returns g c = let p = c.push.ensures in record { items = p.items; own = p.own; idle = p.idle }
