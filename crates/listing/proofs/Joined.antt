-- Digests of bytes that are taken in piece by piece.
use Rattle.std.proofs.Common.{◌≡◌, ℕ, ◌+◌, ◌<◌, ◌≤◌, List, [], ◌++◌, length, take, get_or, ap, ◌∙◌, sym, add-one, arith}
use Rattle.std.proofs.lemmas.Grind.{common_steps}
use Rattle.std.proofs.lemmas.List.{flat_map_more, take_more}
use Rattle.std.proofs.lemmas.List.Sums.{fold-append}
use Rattle.listing.specs.Digests.{basis, digest_from, mixed}
use Rattle.listing.specs.Records.{record_bytes, records_bytes}
use Rattle.listing.specs.Slots.{read_bytes, slots_bytes}
use Rattle.model.specs.declared.shape.FrameRecord.{FrameRecord}
use Rattle.pages.specs.Store.{Rules, refusal_at}

-- one piece more
joined : (front piece : List ℕ) (d e : ℕ) → d ≡ digest_from basis front → e ≡ digest_from d piece → e ≡ digest_from basis (front ++ piece)
joined front piece d e before more = more ∙ ap (λ x. digest_from x piece) before ∙ sym (fold-append mixed basis front piece)

-- no slot yet
pub slots-none : {M : Type 0} (r : Rules M) (m : M) (d : ℕ) → d ≡ basis → d ≡ digest_from basis (slots_bytes r m 0)
unfolding slots_bytes
slots-none r m d h = h

-- one slot more
pub slots-more : {M : Type 0} (r : Rules M) (m : M) (n d e : ℕ) → d ≡ digest_from basis (slots_bytes r m n)
    → e ≡ digest_from d (read_bytes r m n (refusal_at r m n 2048)) → e ≡ digest_from basis (slots_bytes r m (n + 1))
unfolding slots_bytes
slots-more r m n d e before more = rw add-one (joined (slots_bytes r m n) (read_bytes r m n (refusal_at r m n 2048)) d e before more)

-- no record yet
pub records-none : (records : List FrameRecord) (d : ℕ) → d ≡ basis → d ≡ digest_from basis (records_bytes (take 0 records))
records-none records d h = h

-- one record more
pub records-more : (records : List FrameRecord) (i : ℕ) (vacant : FrameRecord) (d e : ℕ) (bytes : List ℕ) → i < length records
    → bytes ≡ record_bytes (get_or records i vacant) → d ≡ digest_from basis (records_bytes (take i records)) → e ≡ digest_from d bytes
    → e ≡ digest_from basis (records_bytes (take (i + 1) records))
records-more records i vacant d e bytes l b before more =
    let front = take_more records i vacant l in
    let on = flat_map_more record_bytes [] (take i records) (get_or records i vacant) in
    let whole : records_bytes (take i records) ++ bytes ≡ records_bytes (take (i + 1) records) = cc in
    joined (records_bytes (take i records)) bytes d e before more ∙ ap (digest_from basis) whole

-- all records
pub records-all : (records : List FrameRecord) (i d : ℕ) → length records ≤ i → d ≡ digest_from basis (records_bytes (take i records))
    → d ≡ digest_from basis (records_bytes records)
records-all records i d h e = grind (arith, common_steps)
