-- If no group is lost, every bucket's owner covers: it is up, and has buffered everything that is
-- not acknowledged.
use Rattle.std.proofs.Common.{◌≡◌, ℕ, zero, suc, ◌+◌, ◌*◌, ◌<◌, ◌≤◌, Bool, true, false, cond, List, [], ◌∷◌, ◌++◌, length, map, filter, take, refl, sym, ap, subst, ◌∙◌, inl, inr, arith}
use Rattle.std.specs.Prelude.{◌⊎◌, ◌==◌, ◌&&◌, nat_le, nat_lt, not, if◌then◌else◌, Option, Some, None, unwrap_or}
use Rattle.std.specs.List.{AllByRecursion, find, flat_map, last_or, slice_get}
use Rattle.std.specs.Option.{option_map, option_map_or, option_or}
use Rattle.std.proofs.lemmas.Bool.{and_parts, eq-eqb, le-leb, leb-true, lt-ltb, ltb-true, ltb-false, ne_eqb}
use Rattle.std.proofs.lemmas.List.Folds.{find-append}
use Rattle.std.proofs.lemmas.List.{append-nil, map-append, take-append-le}
use Rattle.rb_base.specs.declared.body.EpochBody.{EpochBody}
use Rattle.rb_base.specs.declared.message.Sent.{Sent}
use Rattle.rb_base.specs.declared.outcome.Outcome.TheVariants as outcomes
use Rattle.rb_base.specs.declared.script.ClientOp.{ClientOp}
use Rattle.rb_base.specs.declared.site.SiteId.{SiteId}
use Rattle.rb_base.specs.declared.site.SiteId.TheVariants.{A, B}
use Rattle.rb_base.specs.declared.script.Setup.{Setup}
use Rattle.rb_text_defs.specs.declared.script.LinedEvent.{LinedEvent}
use Rattle.rb_journal_defs.specs.Transaction.{Refusal, refusal_of}
use Rattle.rb_message_defs.specs.Received.{answer_to}
use Rattle.rb_journal_defs.specs.Journal.{Entry, Closed, Journal, closed_epochs}
use Rattle.rb_journal_defs.specs.Body.{Shape, body_of, completed_bodies, has_something_to_log, numbers_below}
use Rattle.rb_journal_defs.specs.Clock.{first_epoch, epoch_after}
use Rattle.rb_journal_defs.proofs.Bodies.{if_logged, adds_closes_none, completed_entered, completed_closed}
use Rattle.rb_journal_defs.specs.Order.{InOrder, IsClosed, AddsTo}
use Rattle.rb_journal_defs.proofs.Order.{Rises, closed_rise, opened_above, upto, Among, closed_among}
use Rattle.rb_message_defs.specs.Message.{home_node}
use Rattle.rb_message_defs.proofs.Messages.{all_joined}
use Rattle.rb_message_defs.proofs.Numbers.{number_at, numbered_get, found_in}
use Rattle.rb_message_defs.specs.Nodes.{Node, node_from, down, Nodes, nodes_at_first, node_at, owner_in, needed_epoch, covers, others_after, successor_of, with_node, with_failure, with_restart, with_owner, returns, with_returns, numbers_in, group_of, buffered, messages_of, part_messages, unacknowledged}
use Rattle.rb_play_defs.specs.Step.{Progress, beginning, last_written, needed_of, last_epoch, written_bodies, worth_logging, unchanged, refused, rows_of, entered, tx_entry, committed, commit_outcome, tx_step, only_closed, closed, close_step, fed_by, delivered_message, answer_outcome, deliver_step, undelivered, after_delivery, all_delivered, delivery_of_all, deliver_all_step, takeover_step, loss_step, fail_step, restart_step, resend_step, injector_step, unless_lost, StepResult, takeable, with_taken, with_all_taken, with_acknowledged, injected, injection_of, inject_step, site_step}
use Rattle.rb_play_defs.specs.Play.{setup_at, shape_of, progress_at, beginnings, not_played, play_of}
use Rattle.rb_play_defs.specs.declared.event.SiteEvent.{SiteEvent}
use Rattle.rb_play_defs.specs.declared.event.SiteEvent.TheVariants as happenings
use Rattle.rb_play_defs.proofs.Along.{along_site}
use Rattle.rb_play_defs.specs.Sound.{IsSound, AllCovered, IsCovered, CanSendAgain}
use Rattle.rb_play_defs.proofs.Sounds.{closed_all_below}
use Rattle.rb_play_defs.proofs.Restarts.{last_written_is}
use Rattle.rb_play_defs.proofs.Takes.{prefix_of, sound_taken, sound_all_taken, takeable_rest, taken_more, taken_end, written_more}
use Rattle.rb_play_defs.proofs.Fits.{all_filtered}
use Rattle.rb_play_defs.specs.Play.{HasBuckets}
use Rattle.rb_play_defs.proofs.Grows.{written_within, goes_site, sound_at_first}
use Rattle.rb_device_defs.proofs.PrefixLaws.{last_snoc}

-- a fact about 0 and each number of a list holds for the last number, or for 0
last_in : (P : ℕ → Type 0) (xs : List ℕ) → P 0 → AllByRecursion P xs → P (unwrap_or (last_or None xs) 0)
last_in P [] none all = none
last_in P (x ∷ xs) none all = from x xs all.0 all.1
  where
    from : (x : ℕ) (xs : List ℕ) → P x → AllByRecursion P xs → P (unwrap_or (last_or (Some x) xs) 0)
    from x [] here all = here
    from x (y ∷ xs) here all = from y xs all.0 all.1

-- the last written epoch is below the open one
pub written_below : (shape : Shape) (run : Progress) → IsSound shape run → last_written shape run < run.opened
written_below shape run sound =
    subst (λ (e : ℕ). e < run.opened) (sym (last_written_is shape run sound))
    (last_in (λ e. e < run.opened) (worth_logging shape run.journal (upto run.last run.journal)) (opened_above run.opened run.journal sound.order)
    (all_filtered (λ e. e < run.opened) _ (upto run.last run.journal) (all_filtered (λ e. e < run.opened) _ (closed_epochs run.journal) (closed_all_below run.opened run.journal sound.order))))

-- a close leaves the needed epoch unchanged
pub needed_at_close : (acknowledged opened next : ℕ) (j : Journal) → acknowledged < opened → needed_epoch acknowledged next (Closed opened ∷ j) ≡ needed_epoch acknowledged opened j
needed_at_close acknowledged opened next j below = ap (λ o. unwrap_or o next) (find-append (nat_lt acknowledged) (closed_epochs j) (opened ∷ [])) ∙ go (find (nat_lt acknowledged) (closed_epochs j))
  where
    go : (found : Option ℕ) → unwrap_or (option_or found (find (nat_lt acknowledged) (opened ∷ []))) next ≡ unwrap_or found opened
    go None = ap (λ (b : Bool). unwrap_or (if b then Some opened else None) next) (lt-ltb acknowledged opened below)
    go (Some e) = refl

-- a number below all numbers of a list and below `top` is below the number that a search finds, or
-- `top`
least_found : (x top : ℕ) (test : ℕ → Bool) (ys : List ℕ) → x < top → AllByRecursion (λ y. x < y) ys → x ≤ unwrap_or (find test ys) top
least_found x top test [] below all = omega arith
least_found x top test (y ∷ ys) below all = go (test y) (least_found x top test ys below all.1)
  where
    go : (b : Bool) → x ≤ unwrap_or (find test ys) top → x ≤ unwrap_or (if b then Some y else find test ys) top
    go true rest = let l = all.0 in omega arith
    go false rest = rest

-- the needed epoch rises with the acknowledged one
rises_in : (a b top : ℕ) (xs : List ℕ) → a ≤ b → Rises top xs → unwrap_or (find (nat_lt a) xs) top ≤ unwrap_or (find (nat_lt b) xs) top
rises_in a b top [] more rises = omega arith
rises_in a b top (x ∷ xs) more rises = go (nat_lt a x) (nat_lt b x) refl refl (least_found x top (nat_lt b) xs rises.1 rises.2) (rises_in a b top xs more rises.3)
  where
    go : (c d : Bool) → nat_lt a x ≡ c → nat_lt b x ≡ d → x ≤ unwrap_or (find (nat_lt b) xs) top → unwrap_or (find (nat_lt a) xs) top ≤ unwrap_or (find (nat_lt b) xs) top
        → unwrap_or (if c then Some x else find (nat_lt a) xs) top ≤ unwrap_or (if d then Some x else find (nat_lt b) xs) top
    go true true is also least rest = omega arith
    go true false is also least rest = least
    go false true is also least rest = absurd (omega (arith, ltb-false a x is, ltb-true b x also))
    go false false is also least rest = rest

pub needed_rises : (a b opened : ℕ) (j : Journal) → a ≤ b → InOrder opened j → needed_epoch a opened j ≤ needed_epoch b opened j
needed_rises a b opened j more order = rises_in a b opened (closed_epochs j) more (closed_rise opened j order)

-- each number of a list is above a number that is below all of them
among_above : (x e : ℕ) (ys : List ℕ) → AllByRecursion (λ y. x < y) ys → Among e ys → x < e
among_above x e [] all there = absurd there
among_above x e (y ∷ ys) all (inl is) = let l = all.0 in omega arith
among_above x e (y ∷ ys) all (inr there) = among_above x e ys all.1 there

-- no closed epoch above the acknowledged one is below the needed one
least_in : (acknowledged top e : ℕ) (xs : List ℕ) → Rises top xs → Among e xs → acknowledged < e → unwrap_or (find (nat_lt acknowledged) xs) top ≤ e
least_in acknowledged top e [] rises among above = absurd among
least_in acknowledged top e (x ∷ xs) rises among above = go (nat_lt acknowledged x) refl among (λ there. least_in acknowledged top e xs rises.3 there above)
  where
    go : (b : Bool) → nat_lt acknowledged x ≡ b → (x ≡ e) ⊎ Among e xs → (Among e xs → unwrap_or (find (nat_lt acknowledged) xs) top ≤ e) → unwrap_or (if b then Some x else find (nat_lt acknowledged) xs) top ≤ e
    go true is (inl same) rest = omega arith
    go true is (inr there) rest = let l = among_above x e xs rises.2 there in omega arith
    go false is (inl same) rest = absurd (omega (arith, ltb-false acknowledged x is))
    go false is (inr there) rest = rest there

pub needed_least : (acknowledged opened e : ℕ) (j : Journal) → InOrder opened j → IsClosed e j → acknowledged < e → needed_epoch acknowledged opened j ≤ e
needed_least acknowledged opened e j order closed above = least_in acknowledged opened e (closed_epochs j) (closed_rise opened j order) (closed_among e j closed) above

-- a node that covers still covers when the needed epoch rises
covers_more : (a b : ℕ) (node : Node) → a ≤ b → covers a node ≡ true → covers b node ≡ true
covers_more a b node more is =
    let both = and_parts node.up (nat_le node.since a) is in
    and_true node.up (nat_le node.since b) both.0 (le-leb node.since b (let l = leb-true node.since a both.1 in omega arith))
  where
    and_true : (x y : Bool) → x ≡ true → y ≡ true → (x && y) ≡ true
    and_true true true is also = refl
    and_true true false is also = also
    and_true false y is also = is

-- a change of one node leaves the other nodes unchanged
other_node : (number other : ℕ) (node : Node) (site : Nodes) → (other ≡ number → ⊥) → node_at (with_node number node site) other ≡ node_at site other
other_node number other node site differs =
    ap (λ (o : Option Node). unwrap_or o down) (numbered_get (λ numbered. if numbered.0 == number then node else numbered.1) 0 other site.nodes) ∙ go (slice_get site.nodes other)
  where
    go : (found : Option Node) → unwrap_or (option_map (λ x. if 0 + other == number then node else x) found) down ≡ unwrap_or found down
    go None = refl
    go (Some x) = ap (λ (b : Bool). if b then node else x) (ne_eqb (0 + other) number (λ same. differs (let s = same in omega arith)))

-- every owner still covers when the needed epoch rises
pub covered_more : (buckets a b : ℕ) (site : Nodes) → a ≤ b → AllCovered buckets a site → AllCovered buckets b site
covered_more buckets a b site more all bucket within = covers_more a b (node_at site (owner_in site bucket)) more (all bucket within)

-- every owner still covers after the restart of a node that was down
pub covered_restart : (buckets needed number opened : ℕ) (site : Nodes) → (node_at site number).up ≡ false → AllCovered buckets needed site → AllCovered buckets needed (with_restart number opened site)
covered_restart buckets needed number opened site is_down all bucket within =
    ap (covers needed) (other_node number (owner_in site bucket) _ site (λ same. not_both same)) ∙ all bucket within
  where
    not_both : owner_in site bucket ≡ number → ⊥
    not_both same =
        let up : (node_at site number).up ≡ true = ap (λ (k : ℕ). (node_at site k).up) (sym same) ∙ (and_parts (node_at site (owner_in site bucket)).up _ (all bucket within)).0 in
        let both : false ≡ true = sym is_down ∙ up in absurd cc

passing : (P : ℕ → Type 0) (test : ℕ → Bool) (xs : List ℕ) → ((x : ℕ) → test x ≡ true → P x) → AllByRecursion P (filter test xs)
passing P test [] f = tt
passing P test (x ∷ xs) f = go (test x) refl (passing P test xs f)
  where
    go : (b : Bool) → test x ≡ b → AllByRecursion P (filter test xs) → AllByRecursion P (cond b (x ∷ filter test xs) (filter test xs))
    go true passes rest = (f x passes, rest)
    go false passes rest = rest

-- a node's successor is another node, and covers
pub successor_is : (site : Nodes) (needed node successor : ℕ) → successor_of site needed node ≡ Some successor → (successor ≡ node → ⊥) × (covers needed (node_at site successor) ≡ true)
successor_is site needed node successor is =
    found_in (λ other. other ≡ node → ⊥) (λ other. covers needed (node_at site other)) successor (others_after site node)
    (all_joined (λ other. other ≡ node → ⊥) (filter (nat_lt node) (numbers_in site (group_of site node))) (filter (λ other. nat_lt other node) (numbers_in site (group_of site node)))
    (passing (λ other. other ≡ node → ⊥) (nat_lt node) (numbers_in site (group_of site node)) (λ other passes same. absurd (omega (arith, ltb-true node other passes))))
    (passing (λ other. other ≡ node → ⊥) (λ other. nat_lt other node) (numbers_in site (group_of site node)) (λ other passes same. absurd (omega (arith, ltb-true other node passes))))) is

get_mapped : (f : ℕ → ℕ) (k : ℕ) (xs : List ℕ) → slice_get (map f xs) k ≡ option_map f (slice_get xs k)
get_mapped f k [] = refl
get_mapped f zero (x ∷ xs) = refl
get_mapped f (suc k) (x ∷ xs) = get_mapped f k xs

get_within : (k : ℕ) (xs : List ℕ) → k < length xs → (x : ℕ) × (slice_get xs k ≡ Some x)
get_within k [] within = absurd (omega arith)
get_within zero (x ∷ xs) within = (x, refl)
get_within (suc k) (x ∷ xs) within = get_within k xs (omega arith)

-- the owner of a bucket covers after a takeover
taken : (needed node successor owner : ℕ) (failed : Node) (site : Nodes) → covers needed (node_at (with_node node failed site) successor) ≡ true → ((owner ≡ node → ⊥) → covers needed (node_at (with_node node failed site) owner) ≡ true)
    → covers needed (node_at (with_node node failed site) (if owner == node then successor else owner)) ≡ true
taken needed node successor owner failed site new old = go (owner == node) refl
  where
    go : (b : Bool) → (owner == node) ≡ b → covers needed (node_at (with_node node failed site) (if b then successor else owner)) ≡ true
    go true is = new
    go false is = old (λ same. let no : false ≡ true = sym is ∙ eq-eqb owner node same in absurd cc)

-- every owner covers after a takeover
pub covered_takeover : (buckets needed node successor sent : ℕ) (site : Nodes) → length site.owners ≡ buckets → successor_of site needed node ≡ Some successor → AllCovered buckets needed site → AllCovered buckets needed (with_owner node successor (with_failure node sent site))
covered_takeover buckets needed node successor sent site count is all bucket within =
    let there = get_within bucket site.owners (omega (arith, count)) in
    let own = successor_is site needed node successor is in
    let failed : Node = record { up = false; since = 0; failed_at = sent } in
    let now : owner_in (with_owner node successor (with_failure node sent site)) bucket ≡ (if there.0 == node then successor else there.0) =
    ap (λ (o : Option ℕ). unwrap_or o (home_node bucket)) (get_mapped (λ owner. if owner == node then successor else owner) bucket site.owners ∙ ap (option_map (λ owner. if owner == node then successor else owner)) there.1) in
    let before : owner_in site bucket ≡ there.0 = ap (λ (o : Option ℕ). unwrap_or o (home_node bucket)) there.1 in
    ap (λ (k : ℕ). covers needed (node_at (with_node node failed site) k)) now
    ∙ taken needed node successor there.0 failed site (ap (covers needed) (other_node node successor failed site own.0) ∙ own.1)
    (λ differs. ap (covers needed) (other_node node there.0 failed site differs) ∙ ap (λ (k : ℕ). covers needed (node_at site k)) (sym before) ∙ all bucket within)

-- the owner of a bucket covers after a close
returned : (needed bucket owner : ℕ) (site : Nodes) → covers needed (node_at site owner) ≡ true → covers needed (node_at site (if returns site needed bucket then home_node bucket else owner)) ≡ true
returned needed bucket owner site covered = go (returns site needed bucket) refl
  where
    go : (b : Bool) → returns site needed bucket ≡ b → covers needed (node_at site (if b then home_node bucket else owner)) ≡ true
    go true is = (and_parts (not (owner_in site bucket == home_node bucket)) (covers needed (node_at site (home_node bucket))) is).1
    go false is = covered

-- every owner covers after a close, with the returns of buckets
pub covered_returns : (buckets needed : ℕ) (site : Nodes) → length site.owners ≡ buckets → AllCovered buckets needed site → AllCovered buckets needed (with_returns needed site)
covered_returns buckets needed site count all bucket within =
    let there = get_within bucket site.owners (omega (arith, count)) in
    let before : owner_in site bucket ≡ there.0 = ap (λ (o : Option ℕ). unwrap_or o (home_node bucket)) there.1 in
    let now : owner_in (with_returns needed site) bucket ≡ (if returns site needed bucket then home_node bucket else there.0) =
    ap (λ (o : Option ℕ). unwrap_or o (home_node bucket)) (numbered_get (λ numbered. if returns site needed numbered.0 then home_node numbered.0 else numbered.1) 0 bucket site.owners
    ∙ ap (λ (n : ℕ). option_map (λ owner. if returns site needed n then home_node n else owner) (slice_get site.owners bucket)) (let same : 0 + bucket ≡ bucket = omega arith in same)
    ∙ ap (option_map (λ owner. if returns site needed bucket then home_node bucket else owner)) there.1) in
    ap (λ (k : ℕ). covers needed (node_at site k)) now ∙ returned needed bucket there.0 site (ap (λ (k : ℕ). covers needed (node_at site k)) (sym before) ∙ all bucket within)

-- a new entry and a close leave the logged bodies unchanged
written_when_entered : (shape : Shape) (entry : Entry) (run : Progress) → AddsTo run.opened entry → IsSound shape run → written_bodies shape (entered shape entry run) ≡ written_bodies shape run
written_when_entered shape entry run adds sound =
    ap (take run.written) (completed_entered shape run.opened entry run.journal adds (closed_all_below run.opened run.journal sound.order))

written_at_close : (shape : Shape) (gci : Bool) (run : Progress) → IsSound shape run → written_bodies shape (closed shape gci run) ≡ written_bodies shape run
written_at_close shape gci run sound =
    ap (take run.written) (completed_closed shape run.opened run.journal)
    ∙ take-append-le run.written (completed_bodies shape run.journal) (if_logged (body_of shape run.opened run.journal)) (written_within shape run sound)

-- a new site
pub covered_beginning : (shape : Shape) (groups replicas : ℕ) → shape.buckets ≡ groups * replicas → IsCovered shape (beginning groups replicas)
covered_beginning shape groups replicas count = record { told = omega arith; owners = all }
  where
    node_there : (xs : List ℕ) (k x : ℕ) → slice_get xs k ≡ Some x → slice_get (map (λ number. node_from first_epoch) xs) k ≡ Some (node_from first_epoch)
    node_there [] k x is = absurd cc
    node_there (y ∷ xs) zero x is = refl
    node_there (y ∷ xs) (suc k) x is = node_there xs k x is

    all : (beginning groups replicas).lost ≡ None → AllCovered shape.buckets first_epoch (nodes_at_first groups replicas)
    all none bucket within =
        let below : bucket < groups * replicas = omega (arith, count) in
        let there = number_at (groups * replicas) bucket below in
        let owner : owner_in (nodes_at_first groups replicas) bucket ≡ bucket = ap (λ (o : Option ℕ). unwrap_or o (home_node bucket)) there in
        ap (λ (k : ℕ). covers first_epoch (node_at (nodes_at_first groups replicas) k)) owner
        ∙ ap (λ (o : Option Node). covers first_epoch (unwrap_or o down)) (node_there (numbers_below (groups * replicas)) bucket bucket there)

-- a new entry of the open epoch
pub covered_entered : (shape : Shape) (entry : Entry) (run : Progress) → AddsTo run.opened entry → IsSound shape run → IsCovered shape run → IsCovered shape (entered shape entry run)
covered_entered shape entry run adds sound covered = record {
  told = (let same = ap last_epoch (written_when_entered shape entry run adds sound) in let told = covered.told in omega arith);
  owners = λ none. subst (λ (closed : List ℕ). AllCovered shape.buckets (unwrap_or (find (nat_lt run.acknowledged) closed) run.opened) run.nodes) (sym (adds_closes_none run.opened entry run.journal adds)) (covered.owners none);
}

pub covered_commit : (shape : Shape) (operations : List ClientOp) (run : Progress) → IsSound shape run → IsCovered shape run → IsCovered shape (committed shape operations run)
covered_commit shape operations run sound covered =
    let entered = covered_entered shape (tx_entry shape operations run) run refl sound covered in
    record { told = entered.told; owners = entered.owners }

-- the acknowledged epoch is below the open one
pub acknowledged_below : (shape : Shape) (run : Progress) → IsSound shape run → IsCovered shape run → run.acknowledged < run.opened
acknowledged_below shape run sound covered = let below = written_below shape run sound in let told = covered.told in omega arith

-- a close
pub covered_close : (shape : Shape) (gci : Bool) (run : Progress) → IsSound shape run → IsCovered shape run → IsCovered shape (closed shape gci run)
covered_close shape gci run sound covered =
    let after = only_closed gci run in
    let needed : needed_of (closed shape gci run) ≡ needed_of run = needed_at_close run.acknowledged run.opened (epoch_after gci run.opened) run.journal (acknowledged_below shape run sound covered) in record {
      told = (let same = ap last_epoch (written_at_close shape gci run sound) in let told = covered.told in omega arith);
      owners = λ none. subst (λ (n : ℕ). AllCovered shape.buckets n (with_returns (needed_of after) run.nodes)) (sym needed)
          (subst (λ (n : ℕ). AllCovered shape.buckets (needed_of run) (with_returns n run.nodes)) (sym needed)
          (covered_returns shape.buckets (needed_of run) run.nodes sound.nodes.owners (covered.owners none)));
    }

-- an epoch that is taken is above the last taken one
pub taken_above : (shape : Shape) (run : Progress) (e : ℕ) (rest : List ℕ) → takeable shape run ≡ e ∷ rest → run.last < e
taken_above shape run e rest same =
    let front = prefix_of shape run e rest same in
    ltb-true run.last e (subst (AllByRecursion (λ x. nat_lt run.last x ≡ true)) front.1 (passing (λ x. nat_lt run.last x ≡ true) (nat_lt run.last) (closed_epochs run.journal) (λ x passes. passes))).0

pub written_within_last : (shape : Shape) (run : Progress) → IsSound shape run → last_written shape run ≤ run.last
written_within_last shape run sound =
    subst (λ (e : ℕ). e ≤ run.last) (sym (last_written_is shape run sound))
    (last_in (λ e. e ≤ run.last) (worth_logging shape run.journal (upto run.last run.journal)) (omega arith)
    (all_filtered (λ e. e ≤ run.last) _ (upto run.last run.journal) (passing (λ e. e ≤ run.last) (λ e. nat_le e run.last) (closed_epochs run.journal) (λ e passes. leb-true e run.last passes))))

body_epoch : (shape : Shape) (e : ℕ) (j : Journal) → (body_of shape e j).epoch.0 ≡ e
unfolding body_of
body_epoch shape e j = refl

-- the last epoch of a list of bodies with one more
last_more : (bodies : List EpochBody) (body : EpochBody) → last_epoch (bodies ++ body ∷ []) ≡ body.epoch.0
last_more bodies body = ap (λ (es : List ℕ). unwrap_or (last_or None es) 0) (map-append (λ (b : EpochBody). b.epoch.0) bodies (body ∷ [])) ∙ ap (λ (o : Option ℕ). unwrap_or o 0) (last_snoc None (map (λ (b : EpochBody). b.epoch.0) bodies) body.epoch.0)

-- taking an epoch leaves the last written epoch unchanged or raises it
pub written_rises : (shape : Shape) (run : Progress) (e : ℕ) (rest : List ℕ) → IsSound shape run → takeable shape run ≡ e ∷ rest → last_written shape run ≤ last_written shape (with_taken shape run e)
written_rises shape run e rest sound same =
    subst (λ (bodies : List EpochBody). last_written shape run ≤ last_epoch bodies) (sym (written_more shape run e rest sound same)) (rises (has_something_to_log (body_of shape e run.journal)))
  where
    rises : (b : Bool) → last_written shape run ≤ last_epoch (written_bodies shape run ++ cond b (body_of shape e run.journal ∷ []) [])
    rises true =
        let last : last_epoch (written_bodies shape run ++ body_of shape e run.journal ∷ []) ≡ e = last_more (written_bodies shape run) (body_of shape e run.journal) ∙ body_epoch shape e run.journal in
        omega (arith, written_within_last shape run sound, taken_above shape run e rest same)
    rises false = subst (λ (bodies : List EpochBody). last_written shape run ≤ last_epoch bodies) (sym (append-nil (written_bodies shape run))) (omega arith)

-- a taken epoch
pub covered_taken : (shape : Shape) (run : Progress) (e : ℕ) (rest : List ℕ) → IsSound shape run → takeable shape run ≡ e ∷ rest → IsCovered shape run → IsCovered shape (with_taken shape run e)
covered_taken shape run e rest sound same covered = record {
  told = (let told = covered.told in let rises = written_rises shape run e rest sound same in omega arith);
  owners = covered.owners;
}

pub covered_all_taken : (shape : Shape) (run : Progress) (es : List ℕ) → IsSound shape run → takeable shape run ≡ es → IsCovered shape run → IsCovered shape (with_all_taken shape run)
covered_all_taken shape run [] sound same covered = subst (IsCovered shape) (sym (taken_end shape run same)) covered
covered_all_taken shape run (e ∷ rest) sound same covered =
    subst (IsCovered shape) (sym (taken_more shape run e rest sound same))
    (covered_all_taken shape (with_taken shape run e) rest (sound_taken shape run e rest sound same) (takeable_rest shape run e rest sound same) (covered_taken shape run e rest sound same covered))

-- the nodes are told the last written epoch
pub covered_acknowledged : (shape : Shape) (run : Progress) → IsSound shape run → IsCovered shape run → IsCovered shape (with_acknowledged shape run)
covered_acknowledged shape run sound covered = record {
  told = omega arith;
  owners = λ none. covered_more shape.buckets (needed_of run) (needed_of (with_acknowledged shape run)) run.nodes
      (needed_rises run.acknowledged (last_written shape run) run.opened run.journal covered.told sound.order) (covered.owners none);
}

-- an `inject` event
pub covered_injected : (shape : Shape) (run : Progress) → IsSound shape run → IsCovered shape run → IsCovered shape (injected shape run)
covered_injected shape run sound covered =
    covered_acknowledged shape (with_all_taken shape run) (sound_all_taken shape run (takeable shape run) sound refl) (covered_all_taken shape run (takeable shape run) sound refl covered)

-- a delivery
pub covered_delivered : (shape : Shape) (place : ℕ) (run : Progress) → IsCovered shape run → IsCovered shape (deliver_step shape place run).run
unfolding deliver_step
covered_delivered shape place run covered = go (slice_get run.sent place)
  where
    go : (x : Option Sent) → IsCovered shape (option_map_or (λ sent. record { run = delivered_message place sent.message run; outcome = answer_outcome (answer_to (fed_by shape run) sent.message) }) x (unchanged run (outcomes.NoMessage place (length run.sent)))).run
    go None = covered
    go (Some sent) = record { told = covered.told; owners = covered.owners }

covered_all : (shape : Shape) (places : List ℕ) (run : Progress) → IsCovered shape run → IsCovered shape (all_delivered shape places run)
covered_all shape [] run covered = covered
covered_all shape (place ∷ places) run covered = covered_all shape places (after_delivery shape run place) (covered_delivered shape place run covered)

covered_delivery : (shape : Shape) (run : Progress) → IsCovered shape run → IsCovered shape (delivery_of_all shape run).run
unfolding delivery_of_all
covered_delivery shape run covered = covered_all shape (undelivered run) run covered

covered_injection : (shape : Shape) (run : Progress) → IsSound shape run → IsCovered shape run → IsCovered shape (injection_of shape run).run
unfolding injection_of
covered_injection shape run sound covered = covered_injected shape run sound covered

-- a transaction, refused or accepted
covered_tx : (shape : Shape) (operations : List ClientOp) (run : Progress) → IsSound shape run → IsCovered shape run → IsCovered shape (tx_step shape operations run).run
unfolding tx_step
covered_tx shape operations run sound covered = go (refusal_of (rows_of run) operations)
  where
    go : (x : Option Refusal) → IsCovered shape (option_map_or (λ refusal. unchanged run (refused refusal)) x (record { run = committed shape operations run; outcome = commit_outcome (committed shape operations run) })).run
    go None = covered_commit shape operations run sound covered
    go (Some refusal) = covered

-- the failure or the restart of a node, and a resend
pub covered_fail : (shape : Shape) (node : ℕ) (run : Progress) → IsSound shape run → IsCovered shape run → IsCovered shape (fail_step shape node run).run
unfolding fail_step
covered_fail shape node run sound covered = go (node_at run.nodes node).up (successor_of run.nodes (needed_of run) node) refl
  where
    go : (up : Bool) (successor : Option ℕ) → successor_of run.nodes (needed_of run) node ≡ successor → IsCovered shape (if up then option_map_or (λ other. takeover_step shape node other run) successor (loss_step shape node run) else unchanged run (outcomes.NodeDown node)).run
    go true None is = record { told = covered.told; owners = λ lost. let no : Some (group_of run.nodes node, needed_of run) ≡ None = lost in absurd cc }
    go true (Some other) is = record { told = covered.told; owners = λ none. covered_takeover shape.buckets (needed_of run) node other (length run.sent) run.nodes sound.nodes.owners is (covered.owners none) }
    go false successor is = covered

pub covered_restarted : (shape : Shape) (node : ℕ) (run : Progress) → IsCovered shape run → IsCovered shape (restart_step node run).run
unfolding restart_step
covered_restarted shape node run covered = go (node_at run.nodes node).up refl
  where
    go : (up : Bool) → (node_at run.nodes node).up ≡ up → IsCovered shape (if up then unchanged run (outcomes.NodeUp node) else record { run = record run { nodes = with_restart node run.opened run.nodes }; outcome = outcomes.Restarted (record { 0 = run.opened + 1 }) }).run
    go true is = covered
    go false is = record { told = covered.told; owners = λ none. covered_restart shape.buckets (needed_of run) node run.opened run.nodes is (covered.owners none) }

pub covered_resend : (shape : Shape) (run : Progress) → IsCovered shape run → IsCovered shape (resend_step shape run).run
unfolding resend_step
covered_resend shape run covered = record { told = covered.told; owners = covered.owners }

pub covered_injector : (shape : Shape) (run : Progress) → IsCovered shape run → IsCovered shape (injector_step shape run).run
unfolding injector_step
covered_injector shape run covered = record { told = covered.told; owners = covered.owners }

covered_unless : (shape : Shape) (run : Progress) (step : StepResult) → IsCovered shape run → IsCovered shape step.run → IsCovered shape (unless_lost run step).run
covered_unless shape run step covered next = go run.lost
  where
    go : (lost : Option (ℕ × ℕ)) → IsCovered shape (option_map_or (λ loss. unchanged run (outcomes.SiteLost loss.0 (record { 0 = loss.1 }))) lost step).run
    go None = next
    go (Some loss) = covered

-- an event of a site
pub covered_site : (shape : Shape) (run : Progress) (event : SiteEvent) → IsSound shape run → IsCovered shape run → IsCovered shape (site_step shape run event).run
unfolding site_step close_step deliver_all_step inject_step
covered_site shape run (happenings.Tx operations) sound covered = covered_unless shape run (tx_step shape operations run) covered (covered_tx shape operations run sound covered)
covered_site shape run (happenings.Close gci) sound covered = covered_unless shape run (close_step shape gci run) covered (covered_close shape gci run sound covered)
covered_site shape run (happenings.Deliver place) sound covered = covered_delivered shape place run covered
covered_site shape run happenings.DeliverAll sound covered = covered_delivery shape run covered
covered_site shape run happenings.Inject sound covered = covered_injection shape run sound covered
covered_site shape run (happenings.Fail node) sound covered = covered_unless shape run (fail_step shape node run) covered (covered_fail shape node run sound covered)
covered_site shape run (happenings.Restart node) sound covered = covered_unless shape run (restart_step node run) covered (covered_restarted shape node run covered)
covered_site shape run happenings.Resend sound covered = covered_unless shape run (resend_step shape run) covered (covered_resend shape run covered)
covered_site shape run happenings.Injector sound covered = covered_injector shape run covered

-- the site is sound and covered
record Stands (shape : Shape) (run : Progress) : Type 0 where
  sound : IsSound shape run
  covered : IsCovered shape run

stands_on : (setup : Setup) (site : SiteId) (lined : List LinedEvent) → HasBuckets (setup_at site setup) → Stands (shape_of setup site) (progress_at site (play_of setup lined).sites)
unfolding play_of
stands_on setup site lined has =
    along_site setup site (Stands (shape_of setup site))
    (λ event run before. record { sound = (goes_site (shape_of setup site) run event before.sound).sound; covered = covered_site (shape_of setup site) run event before.sound before.covered })
    lined (not_played setup) (record { sound = sound_at_first setup site has; covered = first site })
  where
    first : (site : SiteId) → IsCovered (shape_of setup site) (progress_at site (beginnings setup))
    first A = covered_beginning (shape_of setup A) setup.a.groups setup.a.replicas refl
    first B = covered_beginning (shape_of setup B) setup.b.groups setup.b.replicas refl

-- a fact about each number of a list
all_among : (P : ℕ → Type 0) (xs : List ℕ) → ((x : ℕ) → Among x xs → P x) → AllByRecursion P xs
all_among P [] each = tt
all_among P (x ∷ xs) each = (each x (inl refl), all_among P xs (λ y there. each y (inr there)))

-- if all numbers above `a` are at least `since`, the two tests together keep the numbers above `a`
both_tests : (since a : ℕ) (xs : List ℕ) → AllByRecursion (λ e. a < e → since ≤ e) xs → filter (λ e. nat_le since e && nat_lt a e) xs ≡ filter (nat_lt a) xs
both_tests since a [] all = refl
both_tests since a (x ∷ xs) all = go (nat_le since x) (nat_lt a x) refl refl (both_tests since a xs all.1)
  where
    go : (b c : Bool) → nat_le since x ≡ b → nat_lt a x ≡ c → filter (λ e. nat_le since e && nat_lt a e) xs ≡ filter (nat_lt a) xs →
        cond (b && c) (x ∷ filter (λ e. nat_le since e && nat_lt a e) xs) (filter (λ e. nat_le since e && nat_lt a e) xs) ≡ cond c (x ∷ filter (nat_lt a) xs) (filter (nat_lt a) xs)
    go true true low above rest = ap (λ (ys : List ℕ). x ∷ ys) rest
    go true false low above rest = rest
    go false true low above rest = absurd (let from = all.0 (ltb-true a x above) in let no : false ≡ true = sym low ∙ le-leb since x from in cc)
    go false false low above rest = rest

-- the needed epoch is at most the open one
needed_within : (a top : ℕ) (xs : List ℕ) → Rises top xs → unwrap_or (find (nat_lt a) xs) top ≤ top
needed_within a top [] rises = omega arith
needed_within a top (x ∷ xs) rises = go (nat_lt a x) (needed_within a top xs rises.3)
  where
    go : (b : Bool) → unwrap_or (find (nat_lt a) xs) top ≤ top → unwrap_or (if b then Some x else find (nat_lt a) xs) top ≤ top
    go true rest = let l = rises.1 in omega arith
    go false rest = rest

-- a node that buffers from the needed epoch on, or from an earlier one, holds everything that is
-- not acknowledged
has_unacknowledged : (shape : Shape) (since acknowledged opened bucket : ℕ) (j : Journal) → InOrder opened j → since ≤ needed_epoch acknowledged opened j → buffered shape since acknowledged opened j bucket ≡ unacknowledged shape acknowledged opened j bucket
has_unacknowledged shape since acknowledged opened bucket j order low =
    let closed = closed_epochs j in
    let rises = closed_rise opened j order in
    let least : AllByRecursion (λ e. acknowledged < e → since ≤ e) closed = all_among (λ e. acknowledged < e → since ≤ e) closed (λ e there above. let l = least_in acknowledged opened e closed rises there above in omega arith) in
    let within = needed_within acknowledged opened closed rises in
    ap (λ (es : List ℕ). flat_map (messages_of shape bucket j) es ++ (if nat_le since opened then part_messages shape opened bucket j else [])) (both_tests since acknowledged closed least)
    ∙ ap (λ (b : Bool). flat_map (messages_of shape bucket j) (filter (nat_lt acknowledged) closed) ++ (if b then part_messages shape opened bucket j else [])) (le-leb since opened (omega arith))

-- in every run that lost no group, a bucket's owner is up and has buffered every closed epoch that
-- is not acknowledged
pub owners_can_send_again : (setup : Setup) (site : SiteId) (lined : List LinedEvent) → HasBuckets (setup_at site setup) → (progress_at site (play_of setup lined).sites).lost ≡ None →
    (bucket epoch : ℕ) → bucket < (shape_of setup site).buckets → IsClosed epoch (progress_at site (play_of setup lined).sites).journal → (progress_at site (play_of setup lined).sites).acknowledged < epoch →
    CanSendAgain (shape_of setup site) (progress_at site (play_of setup lined).sites) bucket epoch
owners_can_send_again setup site lined has none bucket epoch within closed above =
    let shape = shape_of setup site in
    let run : Progress = progress_at site (play_of setup lined).sites in
    let stands = stands_on setup site lined has in
    let covered = stands.covered.owners none bucket within in
    let owner : Node = node_at run.nodes (owner_in run.nodes bucket) in
    let both = and_parts owner.up (nat_le owner.since (needed_of run)) covered in
    let least : needed_of run ≤ epoch = needed_least run.acknowledged run.opened epoch run.journal stands.sound.order closed above in
    let since = leb-true owner.since (needed_of run) both.1 in
    record { up = both.0; since = omega arith; has = has_unacknowledged shape owner.since run.acknowledged run.opened bucket run.journal stands.sound.order since }
