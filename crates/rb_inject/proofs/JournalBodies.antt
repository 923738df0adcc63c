-- The body of an assembled epoch is that of the journal.
use Rattle.std.proofs.Common.{◌≡◌, ℕ, List, [], ◌∷◌, ◌++◌, map, filter, refl, sym, ap, ◌∙◌}
use Rattle.std.specs.Prelude.{None}
use Rattle.std.specs.List.{flat_map}
use Rattle.rb_base.specs.Site.{server_of}
use Rattle.rb_base.specs.declared.site.SiteId.{SiteId}
use Rattle.rb_base.specs.declared.site.SiteId.TheVariants.{A}
use Rattle.rb_base.specs.declared.change.Change.{Change}
use Rattle.rb_journal_defs.specs.Journal.{Journal}
use Rattle.rb_journal_defs.specs.Body.{Shape, part_of, numbers_below, is_logged, is_named_in, body_changes, reflected_in, body_of}
use Rattle.rb_message_defs.proofs.Assembly.{journal_assembly}
use Rattle.rb_inject.specs.Body.{logged_of, body_of_assembled}

parts_joined : (f : ℕ → List Change) (buckets : List ℕ) → flat_map (λ part. part) (map f buckets) ≡ flat_map f buckets
parts_joined f [] = refl
parts_joined f (b ∷ buckets) = ap (λ (cs : List Change). f b ++ cs) (parts_joined f buckets)

-- what is assembled from a journal has the journal's body
pub body_is : (shape : Shape) (last e : ℕ) (j : Journal) → shape.site ≡ A → body_of_assembled A shape.tables (journal_assembly shape last j e) ≡ body_of shape e j
unfolding body_of
body_is shape last e j a =
    let changes : logged_of A (map (λ bucket. part_of shape e bucket j) (numbers_below shape.buckets)) ≡ body_changes shape e j =
    ap (filter (is_logged A)) (parts_joined (λ bucket. part_of shape e bucket j) (numbers_below shape.buckets)) ∙ ap (λ (s : SiteId). filter (is_logged s) (flat_map (λ bucket. part_of shape e bucket j) (numbers_below shape.buckets))) (sym a) in
    ap (λ (cs : List Change). record { server = server_of A; epoch = record { 0 = e }; reflected = None; tables = filter (is_named_in cs) shape.tables; changes = cs }) changes
    ∙ ap (λ (s : SiteId). record { server = server_of s; epoch = record { 0 = e }; reflected = reflected_in s e j; tables = filter (is_named_in (body_changes shape e j)) shape.tables; changes = body_changes shape e j }) (sym a)
