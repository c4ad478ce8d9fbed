-- The numbers of the protocol. Times are in ticks; one tick is one second.
use Rattle.std.specs.Prelude.{ℕ, ◌-◌, Bool, List, [], ◌∷◌, ◌==◌, ◌&&◌, if◌then◌else◌, false, true, min, max}

-- how much faster the server's clock may run than a client's within one term (Macklem 1994)
abbrev pub skew : ℕ
skew = 3

-- how long a writing lease goes on after the last write (Macklem 1994)
abbrev pub write_slack : ℕ
write_slack = 5

-- the shortest term
abbrev pub shortest_term : ℕ
shortest_term = 5

-- the longest term that a server can be told to grant
abbrev pub longest_term : ℕ
longest_term = 600

-- from so long before its end a lease is renewed
abbrev pub renewal : ℕ
renewal = 3

-- after so long without a reply a request is sent again, and after so long one that was put off is made anew
abbrev pub patience : ℕ
patience = 2

-- the most hosts
abbrev pub most_hosts : ℕ
most_hosts = 64

-- the most files
abbrev pub most_files : ℕ
most_files = 256

-- the most blocks of one file
abbrev pub most_blocks_of_file : ℕ
most_blocks_of_file = 1024

-- the most blocks of all files together
abbrev pub most_blocks : ℕ
most_blocks = 16384

-- the most ids that are ever given
abbrev pub most_ids : ℕ
most_ids = 2147483648

-- the most rows of the lease table
abbrev pub most_rows : ℕ
most_rows = 2048

-- the most delayed writes of a client, counted by blocks
abbrev pub most_dirty : ℕ
most_dirty = 1024

-- the most clean blocks of a client
abbrev pub most_clean : ℕ
most_clean = 512

-- the most datagrams and ticks that a server takes in in one boot; each that is not refused counts, dropped ones included
abbrev pub most_taken_by_server : ℕ
most_taken_by_server = 2305843009213693952

-- the most calls, datagrams and ticks that an incarnation of a client takes in; ignored ones count too
abbrev pub most_taken_by_client : ℕ
most_taken_by_client = 1073741824

-- the kept incarnations, sequences and revisions are below these ends, so that an image can have them
abbrev pub inc_end : ℕ
inc_end = 2147483648

abbrev pub seq_end : ℕ
seq_end = 2305843009213693952

abbrev pub rev_end : ℕ
rev_end = 2305843009213693952

-- the numbers of notices and requests wrap here
abbrev pub xid_end : ℕ
xid_end = 4294967296

-- a term as it is granted: a wish outside is moved to the nearer end
abbrev pub granted_term : (longest wish : ℕ) → ℕ
granted_term longest wish = max shortest_term (min longest wish)

-- no more than the first so many
abbrev pub at_most : {A : Type 0} → ℕ → List A → List A
at_most n [] = []
at_most n (x ∷ xs) = if n == 0 then [] else x ∷ at_most (n - 1) xs

-- whether two lists of bytes are one
abbrev pub same_bytes : List ℕ → List ℕ → Bool
same_bytes [] [] = true
same_bytes [] (y ∷ ys) = false
same_bytes (x ∷ xs) [] = false
same_bytes (x ∷ xs) (y ∷ ys) = x == y && same_bytes xs ys
