-- The limit of 60,000 bytes: a text that is not too long is read token by token (`short_enough`), one that is too long is not (`over_long`).
-- Assumes nothing.
use mathlib.Core.Path.{◌≡◌}
use mathlib.Core.List.{List}
use Prim.Native.Nat.{ℕ, ◌≤◌, ◌<◌}
use lib.ListN.{length}
use borrow.Author.Tests.{lt-ltb, le-ltb}
use Rattle.typed.specs.Text.{refused, tokens, read_tokens, read_text}
use Rattle.typed.specs.declared.Mistake.TheVariants.{TooLong}

pub short_enough : (text : List ℕ) (room : ℕ) → length text ≤ 60000 → read_tokens room (tokens text) ≡ read_text text room
unfolding read_text
short_enough text room h = rw (le-ltb 60000 (length text) h)

pub over_long : (text : List ℕ) (room : ℕ) → 60000 < length text → refused TooLong 60000 ≡ read_text text room
unfolding read_text
over_long text room h = rw (lt-ltb 60000 (length text) h)
