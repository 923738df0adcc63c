use Rattle.std.proofs.Common.{inl, inr, ◌∙◌, ◌≡◌, ◌-◌, ℕ, ap, length, arith}
use Rattle.std.specs.Prelude.{List, ◌++◌, ◌∷◌, []}
use Rattle.rb_base.proofs.Results.{at_an_error}
use Rattle.rb_log_defs.specs.Index.{index_record}
use Rattle.rb_device_defs.specs.Index.{open_records}
use Rattle.rb_index.proofs.ImageLaws.{by_fault, whole_image, whole_size, closed_image, record_torn, record_written, gate_torn, gate_opened}
use Rattle.rb_index.proofs.index.add_record.Goals as goal

pub returns-in_err-write_at-clause-kept : goal.returns-in_err-write_at-clause-kept
returns-in_err-write_at-clause-kept g c = at_an_error c.from_residual.result (λ rows is.
    by_fault c.in_err-write_at.field-0.0 c.in_err-write_at.ensures.torn c.in_err-write_at.ensures.memory
    (λ torn. inl (record_torn rows c.len-end.result _ _ _ c.len-end.ensures is torn))
    (λ same. inl (whole_image rows _ (same ∙ is))))

pub returns-in_err-sync-clause-kept : goal.returns-in_err-sync-clause-kept
returns-in_err-sync-clause-kept g c = at_an_error c.from_residual-in_err-sync.result (λ rows is.
    inl (closed_image rows _ _ (c.in_err-sync.ensures.same 0 ∙ record_written rows c.len-end.result _ _ _ c.len-end.ensures is c.in_ok-write_at.ensures.written)))

pub returns-in_err-write_at-2-clause-kept : goal.returns-in_err-write_at-2-clause-kept
returns-in_err-write_at-2-clause-kept g c = at_an_error c.from_residual-in_err-write_at-2.result (λ rows is.
    let bytes = c.in_ok-sync.ensures.same 0 ∙ record_written rows c.len-end.result _ _ _ c.len-end.ensures is c.in_ok-write_at.ensures.written in
    let written : g.D.LogDisk.seen c.sync.new.self 0 ≡ open_records rows ++ 0 ∷ (index_record c.args.row.now ++ 0 ∷ []) = bytes ∙ ap (λ (xs : List ℕ). open_records rows ++ 0 ∷ xs) c.record_array.ensures in
    let place : length (open_records rows) ≡ c.len-end.result - 1 = omega (arith, whole_size rows _ is, c.len-end.ensures) in
    by_fault c.in_err-write_at-2.field-0.0 c.in_err-write_at-2.ensures.torn c.in_err-write_at-2.ensures.memory
    (λ torn. gate_torn rows c.args.row.now (c.len-end.result - 1) _ _ place written torn)
    (λ same. inl (closed_image rows _ _ (same ∙ written))))

pub returns-in_err-sync-2-clause-kept : goal.returns-in_err-sync-2-clause-kept
returns-in_err-sync-2-clause-kept g c = at_an_error c.from_residual-in_err-sync-2.result (λ rows is.
    let bytes = c.in_ok-sync.ensures.same 0 ∙ record_written rows c.len-end.result _ _ _ c.len-end.ensures is c.in_ok-write_at.ensures.written in
    let written : g.D.LogDisk.seen c.sync.new.self 0 ≡ open_records rows ++ 0 ∷ (index_record c.args.row.now ++ 0 ∷ []) = bytes ∙ ap (λ (xs : List ℕ). open_records rows ++ 0 ∷ xs) c.record_array.ensures in
    let place : length (open_records rows) ≡ c.len-end.result - 1 = omega (arith, whole_size rows _ is, c.len-end.ensures) in
    inr (whole_image _ _ (c.in_err-sync-2.ensures.same 0 ∙ gate_opened rows c.args.row.now (c.len-end.result - 1) _ _ place written c.in_ok-write_at-2.ensures.written)))

pub returns-clause-added : goal.returns-clause-added
returns-clause-added g c = λ rows is.
    let bytes = c.in_ok-sync.ensures.same 0 ∙ record_written rows c.len-end.result _ _ _ c.len-end.ensures is c.in_ok-write_at.ensures.written in
    let written : g.D.LogDisk.seen c.sync.new.self 0 ≡ open_records rows ++ 0 ∷ (index_record c.args.row.now ++ 0 ∷ []) = bytes ∙ ap (λ (xs : List ℕ). open_records rows ++ 0 ∷ xs) c.record_array.ensures in
    let place : length (open_records rows) ≡ c.len-end.result - 1 = omega (arith, whole_size rows _ is, c.len-end.ensures) in
    c.in_ok-sync-2.ensures.same 0 ∙ gate_opened rows c.args.row.now (c.len-end.result - 1) _ _ place written c.in_ok-write_at-2.ensures.written
