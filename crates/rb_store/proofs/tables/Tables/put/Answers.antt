use Rattle.std.proofs.Common.{ℕ, ◌-◌, Option, Some}
use Rattle.rb_store.specs.declared.table.Held.{Held}
use Rattle.rb_store.specs.Table.{held_of, room_of}
use Rattle.rb_store.specs.Tables.{held_at, room_at}
use Rattle.rb_store.proofs.Slots.{changed_at, declared_by_room}
use Rattle.rb_store.proofs.tables.Tables.put.Goals as goal

pub returns-clause-rows : goal.returns-clause-rows
unfolding held_at room_at
returns-clause-rows c =
    let declared = declared_by_room c.args.self.now.tables.items c.args.table _ c.requires.room in
    λ t k. rw (c.from.ensures, ← c.key_of_row-key.ensures) (changed_at held_of (λ (held : Option Held). Some c.args.held) _ _ _ _ _ declared.0 declared.1 (rw c.from.ensures at c.index_mut.ensures.value) c.put.ensures.held t k)

pub returns-clause-room : goal.returns-clause-room
unfolding room_at
returns-clause-room c =
    let declared = declared_by_room c.args.self.now.tables.items c.args.table _ c.requires.room in
    λ t k. rw (c.from.ensures, ← c.key_of_row-key.ensures) (changed_at room_of (λ (room : ℕ). room - 1) _ _ _ _ _ declared.0 declared.1 (rw c.from.ensures at c.index_mut.ensures.value) c.put.ensures.room t k)
