-- The bucket of a key.
use Rattle.std.specs.Prelude.{ℕ, ◌+◌, ◌%◌}

-- consecutive keys go to consecutive buckets; the table's number shifts the first one
abbrev pub bucket_number : (table key buckets : ℕ) → ℕ
bucket_number table key buckets = (key % buckets + table) % buckets
