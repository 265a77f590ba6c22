-- The bytes of a page store, as a digest takes them in.
use Rattle.std.specs.Prelude.{ℕ, zero, suc, List, [], ◌++◌, Option, Some, None}
use Rattle.pages.specs.declared.fault.StoreRefusal.{StoreRefusal}
use Rattle.pages.specs.Store.{Rules, refusal_at}

-- The bytes of a slot that can be read; none where a read is refused.
abbrev pub read_bytes : {M : Type 0} → Rules M → M → ℕ → Option StoreRefusal → List ℕ
read_bytes r m k None = r.slot m k
read_bytes r m k (Some why) = []

-- Those of the slots below n.
unfoldable pub slots_bytes : {M : Type 0} → Rules M → M → ℕ → List ℕ
slots_bytes r m zero = []
slots_bytes r m (suc n) = slots_bytes r m n ++ read_bytes r m n (refusal_at r m n 2048)

-- Those of all slots.
abbrev pub store_bytes : {M : Type 0} → Rules M → M → List ℕ
store_bytes r m = slots_bytes r m (r.count m)
