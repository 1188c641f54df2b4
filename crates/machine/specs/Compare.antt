-- When two machines are the same to a user, and where they first differ.
use Rattle.std.specs.Prelude.{◌≡◌, ℕ, ◌+◌, ◌*◌, ◌/◌, ◌%◌, ◌<◌, Bool, true, List, length, Some, None, Option, ◌≢◌, slice_index, ◌++◌, codes}
use Rattle.memory.specs.Cells.{Row}
use Rattle.memory.specs.Answers.{reading}
use Rattle.model.specs.declared.user.User.{User}
use Rattle.model.specs.declared.user.Who.{Who}
use Rattle.model.specs.Numbers.{octal}
use Rattle.model.specs.Machine.{State, user_of}
use Rattle.model.specs.Isolation.{Alike}
use Rattle.machine.specs.declared.compare.Difference.{Difference}
use Rattle.machine.specs.declared.compare.Difference.TheVariants.{Registers, Map, Kind, LatestStop, Cell}

-- ---- the records of the user

-- the first part in which they differ; no cell is part of a record
abbrev pub ToldApart : Option Difference → User → User → Type 0
ToldApart None u v = u ≡ v
ToldApart (Some Registers) u v = u.registers ≡ v.registers → ⊥
ToldApart (Some Map) u v = (u.registers ≡ v.registers) × (u.map ≢ v.map)
ToldApart (Some Kind) u v = (u.registers ≡ v.registers) × (u.map ≡ v.map) × (u.kind ≢ v.kind)
ToldApart (Some LatestStop) u v = (u.registers ≡ v.registers) × (u.map ≡ v.map) × (u.kind ≡ v.kind) × (u.latest ≢ v.latest)
ToldApart (Some (Cell n)) u v = ⊥

-- ---- the cells of blocks

-- a read at that address answers the same in both
abbrev pub AlikeAt : Row → Row → ℕ → Type 0
AlikeAt c d n = reading c n ≡ reading d n

-- the first of n addresses at which they differ
abbrev pub FirstApart : (ℕ → ℕ) → ℕ → Row → Row → Option ℕ → Type 0
FirstApart at n c d None = (k : ℕ) → k < n → AlikeAt c d (at k)
FirstApart at n c d (Some a) = (k : ℕ) × (k < n) × (a ≡ at k) × ((j : ℕ) → j < k → AlikeAt c d (at j)) × (AlikeAt c d a → ⊥)

-- the addresses of blocks, one block after the other
abbrev pub address_in : List ℕ → ℕ → ℕ
address_in blocks k = slice_index blocks (k / 1024) * 1024 + k % 1024

abbrev pub CellsApart : List ℕ → Row → Row → Option ℕ → Type 0
CellsApart blocks c d r = FirstApart (address_in blocks) (length blocks * 1024) c d r

-- ---- both

-- none: the records are equal, and so is every cell of the blocks; a part of the record: the parts before it are equal and
-- it is not; a cell: the records are equal, and so is every cell of the blocks before this one, which is not
abbrev pub Compared : Option Difference → Who → List ℕ → State → State → Type 0
Compared None who blocks s t = (user_of who s ≡ user_of who t) × CellsApart blocks s.cells t.cells None
Compared (Some (Cell n)) who blocks s t = (user_of who s ≡ user_of who t) × CellsApart blocks s.cells t.cells (Some n)
Compared (Some Registers) who blocks s t = ToldApart (Some Registers) (user_of who s) (user_of who t)
Compared (Some Map) who blocks s t = ToldApart (Some Map) (user_of who s) (user_of who t)
Compared (Some Kind) who blocks s t = ToldApart (Some Kind) (user_of who s) (user_of who t)
Compared (Some LatestStop) who blocks s t = ToldApart (Some LatestStop) (user_of who s) (user_of who t)

-- ---- what the agreement comes to: machines that are alike to the user in those blocks compare as equal
abbrev pub Among : List ℕ → (ℕ → Bool) → Type 0
Among blocks mine = (i : ℕ) → i < length blocks → mine (slice_index blocks i) ≡ true

abbrev pub NoneIfAlike : Option Difference → Who → List ℕ → State → State → Type 0
NoneIfAlike r who blocks s t = (mine : ℕ → Bool) → Among blocks mine → Alike who mine s t → r ≡ None

-- ---- a difference, told in words
abbrev pub difference_text : Difference → List ℕ
difference_text Registers = codes "registers differ"
difference_text Map = codes "map differs"
difference_text Kind = codes "kind of permit differs"
difference_text LatestStop = codes "latest stop differs"
difference_text (Cell n) = codes "cell " ++ octal n ++ codes " differs"
