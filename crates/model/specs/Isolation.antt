-- What one user's calls are, and when two pasts are the same to that user.
use Rattle.std.specs.Prelude.{◌≡◌, ℕ, ◌/◌, ◌<◌, Bool, true, false, ◌&&◌, List, [], ◌∷◌, get_or, Some, None, Option, nat_lt}
use Rattle.memory.specs.Cells.{Row}
use Rattle.model.specs.declared.user.Page.{Page}
use Rattle.model.specs.declared.user.UserMap.{UserMap}
use Rattle.model.specs.declared.user.Who.{Who}
use Rattle.model.specs.declared.user.Who.TheVariants.{A, B}
use Rattle.model.specs.Machine.{Call, Answer, Sense, of, poke, peek, wordless, Deed, block, status, unlisted, start, run, show, sense, State, user_of, replay, fresh}

-- which of two, by whether two users are the same
abbrev pub by_user {ℓ} : {X : Type ℓ} → Who → Who → X → X → X
by_user A A x y = x
by_user A B x y = y
by_user B A x y = y
by_user B B x y = x

-- ---- a user's calls: its map words, starts, runs and shows, and each put and get in its blocks (of a memory of n cells)
abbrev pub in_blocks : (ℕ → Bool) → ℕ → ℕ → Bool
in_blocks mine n at = nat_lt at n && mine (at / 1024)

abbrev pub own_sense : Who → (ℕ → Bool) → ℕ → Sense → Bool
own_sense who mine n (of w d) = by_user who w true false
own_sense who mine n (poke at w) = in_blocks mine n at
own_sense who mine n (peek at) = in_blocks mine n at
own_sense who mine n wordless = false

abbrev pub own : Who → (ℕ → Bool) → ℕ → Call → Bool
own who mine n k = own_sense who mine n (sense k)

abbrev pub pick : {X : Type 0} → Bool → X → List X → List X
pick true x xs = x ∷ xs
pick false x xs = xs

-- a user's calls of a past, and the answers to them
abbrev pub calls_of : Who → (ℕ → Bool) → ℕ → List Call → List Call
calls_of who mine n [] = []
calls_of who mine n (k ∷ ks) = pick (own who mine n k) k (calls_of who mine n ks)

abbrev pub answers_to : Who → (ℕ → Bool) → ℕ → List Call → List Answer → List Answer
answers_to who mine n [] xs = []
answers_to who mine n (k ∷ ks) [] = []
answers_to who mine n (k ∷ ks) (x ∷ xs) = pick (own who mine n k) x (answers_to who mine n ks xs)

-- ---- what is asked of a past
-- the user's block words name no block of the memory outside `mine`
abbrev pub Owned : (ℕ → Bool) → ℕ → Deed → Type 0
Owned mine n (block l p b) = b < n / 1024 → mine b ≡ true
Owned mine n (status s) = Unit {0}
Owned mine n unlisted = Unit {0}
Owned mine n (start r) = Unit {0}
Owned mine n (run k) = Unit {0}
Owned mine n show = Unit {0}

-- the other's name blocks of `mine` with the write-protect bit only, and its status words keep write protection on
abbrev pub Guest : (ℕ → Bool) → ℕ → Deed → Type 0
Guest mine n (block l p b) = b < n / 1024 → mine b ≡ true → p ≡ true
Guest mine n (status s) = s.write ≡ true
Guest mine n unlisted = Unit {0}
Guest mine n (start r) = Unit {0}
Guest mine n (run k) = Unit {0}
Guest mine n show = Unit {0}

abbrev pub FairSense : Who → (ℕ → Bool) → ℕ → Sense → Type 0
FairSense who mine n (of w d) = by_user who w (Owned mine n d) (Guest mine n d)
FairSense who mine n (poke at w) = Unit {0}
FairSense who mine n (peek at) = Unit {0}
FairSense who mine n wordless = Unit {0}

abbrev pub Each : (Call → Type 0) → List Call → Type 0
Each P [] = Unit {0}
Each P (k ∷ ks) = P k × Each P ks

abbrev pub Fair : Who → (ℕ → Bool) → ℕ → List Call → Type 0
Fair who mine n p = Each (λ k. FairSense who mine n (sense k)) p

-- ---- when two rows of cells, and two machines, are the same to a user
pub record Same (mine : ℕ → Bool) (c d : Row) : Type 0 where
  pub size : c.size ≡ d.size
  pub cells : (x : ℕ) → x < c.size → mine (x / 1024) ≡ true → c.at x ≡ d.at x

pub record Alike (who : Who) (mine : ℕ → Bool) (s t : State) : Type 0 where
  pub user : user_of who s ≡ user_of who t
  pub memory : Same mine s.cells t.cells

-- ---- which entries lead where

-- an entry leads into `mine`, or nowhere
abbrev pub Within : (ℕ → Bool) → Option Page → Type 0
Within mine None = Unit {0}
Within mine (Some p) = mine p.block ≡ true

-- a write through an entry that leads into `mine` is refused; `on` is the switch of write protection
abbrev pub Fenced : (ℕ → Bool) → Bool → Option Page → Type 0
Fenced mine on None = Unit {0}
Fenced mine on (Some p) = mine p.block ≡ true → (on && p.protected) ≡ true

abbrev pub MapWithin : (ℕ → Bool) → UserMap → Type 0
MapWithin mine m = (i : ℕ) → Within mine (get_or m.entries i None)

abbrev pub MapFenced : (ℕ → Bool) → UserMap → Type 0
MapFenced mine m = (i : ℕ) → Fenced mine m.switches.write (get_or m.entries i None)

-- the past of a machine: from new with those cells, by those calls, with those answers, to that state
pub record Past (c : Row) (p : List Call) (xs : List Answer) (s : State) : Type 0 where
  pub answers : xs ≡ (replay (fresh c) p).0
  pub state : s ≡ (replay (fresh c) p).1

-- THE AGREEMENT. Two machines whose memories began alike in a user's blocks, and whose pasts have the same calls of that
-- user's, have given the user the same answers, and hold the same of the user and of its blocks
abbrev pub Agreement : State → State → Type 0
Agreement s t =
    (who : Who) (mine : ℕ → Bool) (c d : Row) (p q : List Call) (xs ys : List Answer) →
    Past c p xs s → Past d q ys t →
    Same mine c d →
    Fair who mine c.size p → Fair who mine c.size q →
    calls_of who mine c.size p ≡ calls_of who mine c.size q →
    (answers_to who mine c.size p xs ≡ answers_to who mine c.size q ys) × Alike who mine s t
