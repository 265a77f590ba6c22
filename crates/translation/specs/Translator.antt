-- What a translator means: both control words, and its pairs, each of a page with a frame start.
use Rattle.std.specs.Prelude.{◌≡◌, ℕ, ◌+◌, ◌*◌, Bool, true, false, ◌⊎◌, List, Some, Ok, Err, Result}
use Rattle.tables.specs.declared.Controls.{Controls}
use Rattle.tables.specs.declared.Refusal.{Refusal}
use Rattle.tables.specs.declared.Sizes.{Sizes}
use Rattle.tables.specs.Walk.{byte_index, checked, located, page_bytes, page_number, sizes_of, walk}

-- A real address, or why there is none.
abbrev pub Answer : Type 0
Answer = Result ℕ Refusal

-- What Translate answers and leaves.
pub record Translated (M : Type 0) : Type 0 where
  pub answer : Answer
  pub left : M

pub record Rules (M : Type 0) : Type 1 where
  -- the values that a translator of this kind can have: what its type keeps true
  pub good : M → Type 0
  -- both control words
  pub controls : M → Controls
  -- whether it has a pair of a page with a frame start, in any layer
  pub has_pair : M → ℕ → ℕ → Bool
  -- Translate on main storage
  pub translate : M → List ℕ → ℕ → Translated M
  -- what LoadControls and Purge leave, on main storage
  pub load : M → List ℕ → Controls → M
  pub purge : M → List ℕ → M
  -- what Forget of a page leaves
  pub forget : M → ℕ → M

-- A frame start agrees with the walk: the walk gives it to the first byte of the page.
pub record Agrees (s : List ℕ) (w : Controls) (page start : ℕ) : Type 0 where
  pub sizes : Sizes
  pub named : sizes_of w.cr0 ≡ Some sizes
  pub walked : walk s w (page * page_bytes sizes.page) ≡ Ok start

-- The answer comes from the frame start of a pair of the page, with the test that the byte is in main storage.
pub record ByPair {M : Type 0} (r : Rules M) (m : M) (s : List ℕ) (a : ℕ) (z : Sizes) (answer : Answer) : Type 0 where
  pub start : ℕ
  pub paired : r.has_pair m (page_number z a) start ≡ true
  pub answered : answer ≡ located s start (byte_index z a)

-- The page has no pair, and the answer is the walk's.
pub record ByWalk {M : Type 0} (r : Rules M) (m : M) (s : List ℕ) (a : ℕ) (z : Sizes) (answer : Answer) : Type 0 where
  pub unknown : (start : ℕ) → r.has_pair m (page_number z a) start ≡ false
  pub answered : answer ≡ walk s (r.controls m) a

-- What Translate answers, by the first two steps of the walk.
abbrev pub Answers : {M : Type 0} → Rules M → M → List ℕ → ℕ → Result Sizes Refusal → Answer → Type 0
Answers r m s a (Err why) answer = answer ≡ Err why
Answers r m s a (Ok z) answer = ByPair r m s a z answer ⊎ ByWalk r m s a z answer

-- The pair of a page and a frame start is the one just answered.
pub record Just (w : Controls) (a page start : ℕ) (answer : Answer) : Type 0 where
  pub sizes : Sizes
  pub passed : checked w a ≡ Ok sizes
  pub page_is : page ≡ page_number sizes a
  pub answered : answer ≡ Ok (start + byte_index sizes a)

-- What is certain of every translator.
pub record Lawful {M : Type 0} (r : Rules M) : Type 0 where
  pub translate_good : (m : M) (s : List ℕ) (a : ℕ) → r.good m → r.good (r.translate m s a).left
  pub translate_controls : (m : M) (s : List ℕ) (a : ℕ) → r.good m → r.controls (r.translate m s a).left ≡ r.controls m
  pub translate_answer : (m : M) (s : List ℕ) (a : ℕ) → r.good m
      → Answers r m s a (checked (r.controls m) a) (r.translate m s a).answer
  pub translate_pairs : (m : M) (s : List ℕ) (a page start : ℕ) → r.good m
      → r.has_pair (r.translate m s a).left page start ≡ true
      → (r.has_pair m page start ≡ true) ⊎ Just (r.controls m) a page start (r.translate m s a).answer
  pub translate_refused : (m : M) (s : List ℕ) (a : ℕ) (why : Refusal) → r.good m → (r.translate m s a).answer ≡ Err why
      → (page start : ℕ) → r.has_pair (r.translate m s a).left page start ≡ r.has_pair m page start
  pub load_good : (m : M) (s : List ℕ) (w : Controls) → r.good m → r.good (r.load m s w)
  pub load_controls : (m : M) (s : List ℕ) (w : Controls) → r.good m → r.controls (r.load m s w) ≡ w
  pub load_agrees : (m : M) (s : List ℕ) (w : Controls) (page start : ℕ) → r.good m
      → r.has_pair (r.load m s w) page start ≡ true → Agrees s w page start
  pub purge_good : (m : M) (s : List ℕ) → r.good m → r.good (r.purge m s)
  pub purge_controls : (m : M) (s : List ℕ) → r.good m → r.controls (r.purge m s) ≡ r.controls m
  pub purge_agrees : (m : M) (s : List ℕ) (page start : ℕ) → r.good m
      → r.has_pair (r.purge m s) page start ≡ true → Agrees s (r.controls m) page start
  pub forget_good : (m : M) (page : ℕ) → r.good m → r.good (r.forget m page)
  pub forget_controls : (m : M) (page : ℕ) → r.good m → r.controls (r.forget m page) ≡ r.controls m
  pub forget_ends : (m : M) (page start : ℕ) → r.good m → r.has_pair (r.forget m page) page start ≡ false
  pub forget_adds_none : (m : M) (gone page start : ℕ) → r.good m
      → r.has_pair (r.forget m gone) page start ≡ true → r.has_pair m page start ≡ true
