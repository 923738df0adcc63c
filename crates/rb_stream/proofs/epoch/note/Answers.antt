use Rattle.std.proofs.Common.{◌∙◌, sym, subst, List, ℕ, Err, Ok}
use Rattle.std.specs.List.Sorted.{IsBinarySearchResult}
use Rattle.std.specs.Ordering.{nat_cmp}
use Rattle.std.proofs.lemmas.List.Sorted.{searched}
use Rattle.rb_stream.proofs.IdLaws.{not_falling, among_there, among_new, noted}
use Rattle.rb_stream.proofs.epoch.note.Goals as goal

pub returns-in_ok-insert : goal.returns-in_ok-insert
returns-in_ok-insert c =
    let (changes, named) = c.requires in
    let found = searched c.args.ids.now.items c.args.id (Err c.in-Err.place) (subst (λ (ids : List ℕ). IsBinarySearchResult (λ y. nat_cmp y c.args.id) ids (Err c.in-Err.place)) c.deref.ensures.value c.in-Err.ensures.position)
    (not_falling changes c.args.ids.now.items named) in
    noted c.args.id c.args.ids.now.items _
    (c.in_ok-insert.ensures.items
    ∙ sym (among_new c.args.id c.in-Err.place c.args.ids.now.items found.0 found.1 found.2))

pub returns-in_default : goal.returns-in_default
returns-in_default c =
    let (changes, named) = c.requires in
    let found = searched c.args.ids.now.items c.args.id (Ok c.in_default.field-0) (subst (λ (ids : List ℕ). IsBinarySearchResult (λ y. nat_cmp y c.args.id) ids (Ok c.in_default.field-0)) c.deref.ensures.value c.in_default.ensures.position)
    (not_falling changes c.args.ids.now.items named) in
    noted c.args.id c.args.ids.now.items c.args.ids.now.items
    (sym (among_there changes c.args.id c.in_default.field-0 c.args.ids.now.items named
    found.0 found.1))
