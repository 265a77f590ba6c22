-- What a frame policy means: how often it holds each frame, and what each call leaves.
use Rattle.std.specs.Prelude.{◌≡◌, ℕ, ◌≤◌, Bool, false, cond, ◌&&◌, ◌⊎◌, List, length, Some, None, Option, ◌==◌, nat_lt, slice_index}
use Rattle.frames.specs.Keys.{reference_off}

-- What Take answers and leaves: a frame or none, the keys, the policy.
pub record Took (M : Type 0) : Type 0 where
  pub frame : Option ℕ
  pub keys : List ℕ
  pub left : M

pub record Rules (M : Type 0) : Type 1 where
  -- the values that a policy of this kind can have: what its type keeps true
  pub good : M → Type 0
  -- how many times it holds a frame
  pub times : M → ℕ → ℕ
  -- what Enter, Return (with reference and change bit), Leave, Touch and Empty leave
  pub enter : M → ℕ → M
  pub return_frame : M → ℕ → Bool → Bool → M
  pub leave : M → ℕ → M
  pub touch : M → ℕ → M
  pub clear : M → M
  -- Take, handed the storage keys
  pub take : M → List ℕ → Took M

-- Whether a frame can be entered: at most 255, and not held.
abbrev pub free : {M : Type 0} → Rules M → M → ℕ → Bool
free r m f = nat_lt f 256 && r.times m f == 0

-- Whether a frame is held.
abbrev pub holds : {M : Type 0} → Rules M → M → ℕ → Bool
holds r m f = r.times m f == 1

-- The keys after are the keys before, with some reference bits turned off.
pub record KeysKept (before after : List ℕ) : Type 0 where
  pub long : length after ≡ length before
  pub each : (i : ℕ) → (slice_index after i ≡ slice_index before i) ⊎ (slice_index after i ≡ reference_off (slice_index before i))

-- Take answers none where nothing is held, and else a frame that was held and is held no more.
abbrev pub Picks : {M : Type 0} → Rules M → M → M → Option ℕ → Type 0
Picks r m left None = ((g : ℕ) → r.times m g ≡ 0) × ((g : ℕ) → r.times left g ≡ 0)
Picks r m left (Some f) = (r.times m f ≡ 1) × ((g : ℕ) → r.times left g ≡ cond (g == f) 0 (r.times m g))

-- What is certain of every policy.
pub record Lawful {M : Type 0} (r : Rules M) : Type 0 where
  pub once : (m : M) (f : ℕ) → r.good m → r.times m f ≤ 1
  pub small : (m : M) (f : ℕ) → r.good m → 256 ≤ f → r.times m f ≡ 0
  pub enter_good : (m : M) (f : ℕ) → r.good m → r.good (r.enter m f)
  pub enter_times : (m : M) (f g : ℕ) → r.good m → r.times (r.enter m f) g ≡ cond (g == f && free r m f) 1 (r.times m g)
  -- an Enter, Return or Leave that answers no leaves the policy as it was, its order too
  pub enter_no : (m : M) (f : ℕ) → r.good m → free r m f ≡ false → r.enter m f ≡ m
  pub return_good : (m : M) (f : ℕ) (ref chg : Bool) → r.good m → r.good (r.return_frame m f ref chg)
  pub return_times : (m : M) (f g : ℕ) (ref chg : Bool) → r.good m
      → r.times (r.return_frame m f ref chg) g ≡ cond (g == f && free r m f) 1 (r.times m g)
  pub return_no : (m : M) (f : ℕ) (ref chg : Bool) → r.good m → free r m f ≡ false → r.return_frame m f ref chg ≡ m
  pub leave_good : (m : M) (f : ℕ) → r.good m → r.good (r.leave m f)
  pub leave_times : (m : M) (f g : ℕ) → r.good m → r.times (r.leave m f) g ≡ cond (g == f) 0 (r.times m g)
  pub leave_no : (m : M) (f : ℕ) → r.good m → holds r m f ≡ false → r.leave m f ≡ m
  pub touch_good : (m : M) (f : ℕ) → r.good m → r.good (r.touch m f)
  pub touch_times : (m : M) (f g : ℕ) → r.good m → r.times (r.touch m f) g ≡ r.times m g
  pub clear_good : (m : M) → r.good m → r.good (r.clear m)
  pub clear_times : (m : M) (g : ℕ) → r.good m → r.times (r.clear m) g ≡ 0
  pub take_good : (m : M) (keys : List ℕ) → r.good m → r.good (r.take m keys).left
  pub take_picks : (m : M) (keys : List ℕ) → r.good m → Picks r m (r.take m keys).left (r.take m keys).frame
  pub take_keys : (m : M) (keys : List ℕ) → r.good m → KeysKept keys (r.take m keys).keys
