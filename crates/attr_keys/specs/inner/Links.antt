-- Links between rows (own). A link is the number of rows up to the one that it leads to, and 0 if it leads to none.
use Rattle.std.specs.Prelude.{ℕ, suc, ◌≤◌, List, length, slice_index}

-- a link, and those that follow it, lead to a row
pub data IsLed (links : List ℕ) : ℕ → ℕ → Type 0 where
  here : {row : ℕ} → IsLed links (suc row) row
  on : {next row : ℕ} → IsLed links (slice_index links next) row → IsLed links (suc next) row

-- heads lead to rows that there are, and the link of each row to an earlier one
pub record AreBounded (heads links : List ℕ) : Type 0 where
  pub within : (bucket : ℕ) → slice_index heads bucket ≤ length links
  pub earlier : (row : ℕ) → slice_index links row ≤ row
