-- The walk on tables that are what they should be.
use Rattle.std.proofs.Common.{◌≡◌, ℕ, ◌+◌, ◌*◌, ◌/◌, ◌%◌, ◌<◌, ◌≤◌, List, length, Some, Ok, sym, refl, ap, ◌∙◌, subst, inl, inr, arith}
use Rattle.std.proofs.lemmas.Bool.{cases_lt, cond-false, cond-true, le-ltb, lt-ltb}
use Rattle.model.specs.Law.{Fits}
use Rattle.model.specs.Layout.{controls_of, entry_at, segment_at, segment_entries, segments, segment_word}
use Rattle.model.specs.World.{Config}
use Rattle.model.proofs.Place.{entry_fits, segment_fits}
use Rattle.storage.specs.Bytes.{half, word}
use Rattle.tables.specs.Bits.{half_bits, word_bits}
use Rattle.tables.specs.declared.PageSize.{PageSize}
use Rattle.tables.specs.declared.PageSize.TheVariants.{Bytes2048, Bytes4096}
use Rattle.tables.specs.declared.SegmentSize.{SegmentSize}
use Rattle.tables.specs.declared.SegmentSize.TheVariants.{Bytes65536, Bytes1048576}
use Rattle.tables.specs.declared.Sizes.{Sizes}
use Rattle.tables.specs.Leads.{NamesPage, NamesSegment, PageGives, SegmentGives, Splits}
use Rattle.tables.specs.Walk.{checked, frame_field, page_bytes, sizes_of, walk}
use Rattle.tables.proofs.Led.{checked_of, checked_ok, finds, found}

-- The sizes of the machine: pages of 2,048 bytes and segments of 65,536.
abbrev pub small : Sizes
small = record { page = Bytes2048; segment = Bytes65536 }

pub small_named : (c : Config) → sizes_of (controls_of c).cr0 ≡ Some small
small_named c = refl

pub passes : (c : Config) (a : ℕ) → a < 16777216 → checked (controls_of c) a ≡ Ok small
passes c a h = checked_of (controls_of c) a small h (small_named c)

-- What checks out has these sizes.
pub only_small : (c : Config) (a : ℕ) (z : Sizes) → checked (controls_of c) a ≡ Ok z → z ≡ small
only_small c a z e = let k = checked_ok (controls_of c) a z e in let q = k.1 in let n = small_named c in let same : Some z ≡ Some small = sym q ∙ n in cc

-- The fields of a segment entry.
fifteen : (g : ℕ) → g < 256 → word_bits 0 3 (0xF0000800 + 64 * g) ≡ 15
fifteen g h = omega arith

origin : (g : ℕ) → g < 256 → 8 * word_bits 8 28 (0xF0000800 + 64 * g) ≡ 2048 + 64 * g
origin g h = omega arith

-- The sizes that the machine's control word names.
small_only : (y : PageSize) (x : SegmentSize) → NamesPage 0x00400000 y → NamesSegment 0x00400000 x → ◌≡◌ {A = Sizes} (record { page = y; segment = x }) small
small_only Bytes2048 Bytes65536 a b = refl
small_only Bytes2048 Bytes1048576 a b = absurd (omega arith)
small_only Bytes4096 Bytes65536 a b = absurd (omega arith)
small_only Bytes4096 Bytes1048576 a b = absurd (omega arith)

module _ (c : Config) (fit : Fits c) (s : List ℕ) (long : length s ≡ 2048 * c.frames) where
  -- the entry of a segment, bit by bit
  segment_gives : (g : ℕ) → g < segments c → word s (segment_at g) ≡ segment_word c g → SegmentGives s (controls_of c).cr1 g (0xF0000800 + 64 * g)
  segment_gives g h e =
      let m = fit.most in
      let at : 64 * word_bits 8 25 (controls_of c).cr1 + 4 * g ≡ segment_at g = omega arith in
      let is : word s (segment_at g) ≡ 0xF0000800 + 64 * g = e ∙ cond-true _ (0xF0000800 + 64 * g) 1 (lt-ltb _ _ h) in
      record {
        in_table = omega arith;
        stored = let l = segment_fits c fit s long g (omega arith) in omega arith;
        stands = sym (ap (word s) at ∙ is);
        reserved = (omega arith, omega arith, omega arith, omega arith, omega arith, omega arith);
        valid = omega arith;
      }

  page_gives : (p f : ℕ) → p < c.pages → f < c.frames → half s (entry_at p) / 2 ≡ 4 * f
      → PageGives s small (0xF0000800 + 64 * (p / 32)) (p % 32) (half s (entry_at p))
  page_gives p f h k e =
      let m = fit.most in
      let n = fit.few in
      let g256 : p / 32 < 256 = omega arith in
      let o = origin (p / 32) g256 in
      let t = fifteen (p / 32) g256 in
      let at : 8 * word_bits 8 28 (0xF0000800 + 64 * (p / 32)) + 2 * (p % 32) ≡ entry_at p = omega (arith, o) in
      record {
        in_table = let i : p % 32 * 16 / 32 ≤ 15 = omega arith in omega (arith, t, i);
        stored = let l = entry_fits c fit s long p (omega arith) in omega arith;
        stands = sym (ap (half s) at);
        valid = (omega arith, omega arith);
      }

  -- a page whose entries are right and name a frame: the walk leads into that frame
  pub walks_to : (a f : ℕ) → a / 2048 < c.pages → f < c.frames → word s (segment_at (a / 2048 / 32)) ≡ segment_word c (a / 2048 / 32)
      → half s (entry_at (a / 2048)) / 2 ≡ 4 * f → walk s (controls_of c) a ≡ Ok (2048 * f + a % 2048)
  walks_to a f h k seg e =
      let m = fit.most in
      let n = fit.few in
      finds s (controls_of c) a (2048 * f + a % 2048) (record {
        sizes = small;
        segment = a / 2048 / 32;
        page = a / 2048 % 32;
        byte = a % 2048;
        segment_entry = 0xF0000800 + 64 * (a / 2048 / 32);
        page_entry = half s (entry_at (a / 2048));
        names = record { page = refl; segment = refl; plain = refl };
        splits = record { sum = omega arith; in_page = omega arith; in_segment = omega arith; short = omega arith };
        from_segment = segment_gives (a / 2048 / 32) (omega arith) seg;
        from_page = page_gives (a / 2048) f h k e;
        makes = omega arith;
        stored = omega arith;
      })

  -- where the walk leads from a page's first byte, on tables whose segment entries are right
  pub record Led (p start : ℕ) : Type 0 where
    pub listed : p < 32 * segments c
    pub valid : half s (entry_at p) / 2 % 4 ≡ 0
    pub starts : start ≡ 2048 * (half s (entry_at p) / 8 % 8192)

  module _ (segs : (g : ℕ) → g < segment_entries c → word s (segment_at g) ≡ segment_word c g) where
    led_small : (p start segment index byte entry h : ℕ) → Splits small (p * 2048) segment index byte
        → SegmentGives s (controls_of c).cr1 segment entry → PageGives s small entry index h → start ≡ half_bits 0 12 h * 2048 + byte → Led p start
    led_small p start segment index byte entry h sp sg pg makes =
        let m = fit.most in
        let sum = sp.sum in
        let ip = sp.in_page in
        let is = sp.in_segment in
        let it = sg.in_table in
        let at : 64 * word_bits 8 25 (controls_of c).cr1 + 4 * segment ≡ segment_at segment = omega arith in
        let more = fit.more in
        let e : entry ≡ segment_word c segment = sg.stands ∙ ap (word s) at ∙ segs segment (omega arith) in
        let v = sg.valid in
        elim (cases_lt segment (segments c)) [
          | inl l ↦
              let e1 : entry ≡ 0xF0000800 + 64 * segment = e ∙ cond-true _ (0xF0000800 + 64 * segment) 1 (lt-ltb _ _ l) in
              let g256 : segment < 256 = omega arith in
              let o : 8 * word_bits 8 28 entry ≡ 2048 + 64 * segment = ap (λ n. 8 * word_bits 8 28 n) e1 ∙ origin segment g256 in
              let whole : p ≡ 32 * segment + index = omega (arith, sum, ip, is) in
              let place : 8 * word_bits 8 28 entry + 2 * index ≡ entry_at p = omega (arith, o, whole) in
              let none : byte ≡ 0 = omega (arith, sum, whole) in
              let short : index < 32 = omega (arith, is) in
              let hs : h ≡ half s (entry_at p) = pg.stands ∙ ap (half s) place in
              let v0 = pg.valid.0 in
              let v1 = pg.valid.1 in
              record {
                listed = omega arith;
                valid = subst (λ x. x / 2 % 4 ≡ 0) hs (omega arith);
                starts = subst (λ x. start ≡ 2048 * (x / 8 % 8192)) hs (omega arith);
              }
          | inr l ↦
              let e1 : entry ≡ 1 = e ∙ cond-false _ (0xF0000800 + 64 * segment) 1 (le-ltb _ _ l) in
              absurd (omega arith)
        ]

    -- the fields of a relation, at sizes that are known
    led_at : (z : Sizes) (p start segment index byte entry h : ℕ) → z ≡ small → Splits z (p * 2048) segment index byte
        → SegmentGives s (controls_of c).cr1 segment entry → PageGives s z entry index h → start ≡ frame_field z.page h * page_bytes z.page + byte → Led p start
    led_at z p start segment index byte entry h e sp sg pg makes =
        led_small p start segment index byte entry h
        (subst (λ (y : Sizes). Splits y (p * 2048) segment index byte) e sp) sg
        (subst (λ (y : Sizes). PageGives s y entry index h) e pg)
        (subst (λ (y : Sizes). start ≡ frame_field y.page h * page_bytes y.page + byte) e makes)

    pub walk_led : (p start : ℕ) → walk s (controls_of c) (p * 2048) ≡ Ok start → Led p start
    walk_led p start e =
        let l = found s (controls_of c) (p * 2048) start e in
        led_at l.sizes p start l.segment l.page l.byte l.segment_entry l.page_entry
        (small_only l.sizes.page l.sizes.segment l.names.page l.names.segment)
        l.splits l.from_segment l.from_page l.makes
