-- What the words of WIRE say.
use Rattle.std.specs.Prelude.{◌≡◌, ℕ, ◌≤◌, List, [], ◌∷◌, Option, Some, None, String, codes, string_bytes}
use Rattle.std.proofs.Common.{Bor}
use Rattle.script.specs.Numbers.{Writes}
use Rattle.script.specs.Said.{AllNamed, Once, values}
use Rattle.script.specs.Words.{kind_word, policy_word, translator_word}
use Rattle.script.specs.declared.wiring.Kind.{Kind}
use Rattle.script.specs.declared.wiring.Source.{Source}
use Rattle.script.specs.declared.wiring.Source.TheVariants.{Plain, Blank, File}
use Rattle.script.specs.declared.wiring.Wiring.{Wiring}

-- A text spells a value.
abbrev pub Spells : {A : Type 0} → (A → List ℕ) → List ℕ → A → Type 0
Spells spelling text x = spelling x ≡ text

-- A text writes a number of slots that a store may be wired with.
abbrev pub WritesSlots : List ℕ → ℕ → Type 0
WritesSlots text n = Writes text n × (n ≤ 16384)

-- A text is held as it stands.
abbrev pub IsHeld : List ℕ → Bor (List ℕ) → Type 0
IsHeld text held = held.now ≡ text

-- A text names a file.
abbrev pub Names : {A : Type 0} → List ℕ → String A → Type 0
Names text path = string_bytes path ≡ text

-- The source of the pages by the kind of store, the number of slots and the file that were met.
abbrev pub Chosen : Option Kind → Option ℕ → Option (Bor (List ℕ)) → Source → Type 0
Chosen kind slots file (Plain n) = (kind ≡ Some Kind.Plain) × (slots ≡ Some n) × (file ≡ None)
Chosen kind slots file (Blank n) = (kind ≡ Some Kind.DataSet) × (slots ≡ Some n) × (file ≡ None)
Chosen kind slots file (File path) =
    (kind ≡ Some Kind.DataSet) × (slots ≡ None) × (f : Bor (List ℕ)) × (file ≡ Some f) × (string_bytes path ≡ f.now)

-- The source of the pages by the values of store=, slots= and file=.
abbrev pub SaysSource : List (List ℕ) → List (List ℕ) → List (List ℕ) → Source → Type 0
SaysSource kinds slots files (Plain n) = Once (Spells kind_word) kinds Kind.Plain × Once WritesSlots slots n × (files ≡ [])
SaysSource kinds slots files (Blank n) = Once (Spells kind_word) kinds Kind.DataSet × Once WritesSlots slots n × (files ≡ [])
SaysSource kinds slots files (File path) = Once (Spells kind_word) kinds Kind.DataSet × (slots ≡ []) × Once Names files path

-- The names of WIRE's words.
abbrev pub wire_names : List (List ℕ)
wire_names = codes "policy" ∷ codes "translator" ∷ codes "store" ∷ codes "slots" ∷ codes "file" ∷ []

-- Words of WIRE say a wiring: each has one of its names, with policy and translator once each, and a source of the pages.
pub record SaysWiring (words : List (Bor (List ℕ))) (wiring : Wiring) : Type 0 where
  pub known : AllNamed wire_names words
  pub policy : Once (Spells policy_word) (values (codes "policy") words) wiring.policy
  pub translator : Once (Spells translator_word) (values (codes "translator") words) wiring.translator
  pub source : SaysSource (values (codes "store") words) (values (codes "slots") words) (values (codes "file") words) wiring.source
