-- What is certain of the three parts once a call has passed its tests, whatever main storage holds. A rule says what is done
-- where a part answers otherwise; here it is said that in a consistent machine none does.
use Rattle.std.specs.Prelude.{◌≡◌, ℕ, ◌+◌, ◌-◌, ◌*◌, ◌%◌, Some, None, Ok, Err, Result}
use Rattle.model.specs.declared.calls.Refusal.{Refusal}
use Rattle.model.specs.declared.shape.Request.{Request}
use Rattle.model.specs.Law.{Consistent, Pageable}
use Rattle.model.specs.Layout.{fixes_in, key_of}
use Rattle.model.specs.Refusals.{decode_fix, decode_load, decode_store}
use Rattle.model.specs.Steps.{brought, brought_frame, taken_frame, taking}
use Rattle.model.specs.World.{Parts, World}
use Rattle.pages.specs.Store.{refusal_at}

module _ {T P S : Type 0} (r : Parts T P S) where
  -- the policy hands over a frame, and it is pageable and has no fixed page
  pub record HandsOver (w : World T P S) : Type 0 where
    pub frame : (taking r w).frame ≡ Some (taken_frame r w)
    pub pageable : Pageable w.config (taken_frame r w)
    pub unfixed : fixes_in w.records (taken_frame r w) ≡ 0

  -- so it is where the page of a request has no frame
  abbrev pub Handing : World T P S → Result Request Refusal → Type 0
  Handing w (Err why) = Unit {0}
  Handing w (Ok q) = q.frame ≡ None → HandsOver w

  -- the translator, asked for an address whose page is brought in, answers the byte of the page's frame
  abbrev pub Leading : World T P S → ℕ → Result Request Refusal → Type 0
  Leading w a (Err why) = Unit {0}
  Leading w a (Ok q) =
      (r.translator.translate (brought r q.page q.key w q.frame).translator (brought r q.page q.key w q.frame).storage a).answer
      ≡ Ok (2048 * brought_frame r w q.frame + a % 2048)

  -- each of the calls that bring a page in finds it so; and the slot of each partition page can be read and written
  pub record Certain (w : World T P S) : Type 0 where
    pub load : (a key : ℕ) → Handing w (decode_load w a key) × Leading w a (decode_load w a key)
    pub store : (a key : ℕ) → Handing w (decode_store w a key) × Leading w a (decode_store w a key)
    pub fix : (p : ℕ) → Handing w (decode_fix w p)
    pub slots : (p key : ℕ) → key_of w.config.partitions p ≡ Some key → refusal_at r.store w.store (p - w.config.supervisor) 2048 ≡ None

  -- in every consistent machine, on any main storage
  abbrev pub CertainOf : Type 0
  CertainOf = (w : World T P S) → Consistent r w → Certain w
