use Rattle.std.proofs.Common.{◌≡◌, ◌++◌, drop, rules, ap}
use Rattle.event.specs.Headers.{header_encoding}
use Rattle.event.specs.Held.{HeldEvent}
use Rattle.event.proofs.Filling.{filled_items, filled_body, filled_length, filled_bytes, filled_event}
use Rattle.event.proofs.event_buf.EventBuf.fill.Goals as goal

items_are : (c : goal.After-append_within-2) → c.append_within-2.new.bytes.items ≡ header_encoding c.args.header.now ++ c.args.body.now
items_are c =
    filled_items c.args.header.now c.clear.new.self.items c.write_header.new.into c.append_within.new.bytes.items c.args.body.now c.append_within-2.new.bytes.items
    c.clear.ensures.items c.write_header.ensures c.append_within.ensures.items c.append_within-2.ensures.items

pub invariant_of-self : goal.invariant_of-self
invariant_of-self c = record {
  bytes = filled_bytes c.args.header.now c.args.body.now _ (items_are c);
  stated = filled_length c.args.header.now c.args.body.now _ (items_are c) c.requires;
  fits = search rules;
  capacity = search rules;
}

pub returns-clause-ok : goal.returns-clause-ok
returns-clause-ok c =
    filled_event c.args.header.now (drop 16 c.append_within-2.new.bytes.items) c.args.body.now c.self.inside.room c.args.self.now.room
    (filled_body c.args.header.now c.args.body.now _ (items_are c)) (ap (λ (h : HeldEvent). h.room) c.self.view_is)
