-- Where an id lives: its routing hash, the hashes under a route, and its bucket. An id and a route are lists of bytes.
use Rattle.std.specs.Prelude.{◌≡◌, ℕ, ◌+◌, ◌-◌, ◌*◌, ◌/◌, ◌%◌, ◌^◌, ◌≤◌, ℤ, pos, negsuc, List, IsTrue, ◌==◌, if◌then◌else◌, sum_by, bit_and}
use Rattle.std.specs.Int.{w32, cast_signed, cast_unsigned}
use Rattle.sc_hash.specs.Hash.{murmur3}
use Rattle.sc_router.specs.Parts.{parts, Share, shares, fixed_shares, ends_open, open_bits}

-- n with all bits but the `count` from bit `low` up made 0
unfoldable pub kept_bits : ℕ → ℕ → ℕ → ℕ
kept_bits low count n = n / 2 ^ low % 2 ^ count * 2 ^ low

-- what a share gives to the hash
abbrev pub share_bits : Share → ℕ
share_bits share = kept_bits share.low share.count (murmur3 share.key 0)

-- the 32 bits of an id's routing hash: the sum of what its parts give
unfoldable pub route_bits : List ℕ → ℕ
route_bits id = sum_by share_bits (shares (parts id))

-- the routing hash of an id
abbrev pub route_hash : List ℕ → ℤ
route_hash id = cast_signed w32 (route_bits id)

-- the hash of a whole id, also where it has several parts
abbrev pub plain_hash : List ℕ → ℤ
plain_hash id = cast_signed w32 (murmur3 id 0)

-- the most buckets, as a power of two
abbrev pub most_bucket_bits : ℕ
most_bucket_bits = 8

-- the most buckets
abbrev pub most_buckets : ℕ
most_buckets = 2 ^ most_bucket_bits

-- a number of buckets: a power of two, from 1 to the most
abbrev pub IsBucketCount : ℕ → Type 0
IsBucketCount buckets = (k : ℕ) × (k ≤ most_bucket_bits) × (buckets ≡ 2 ^ k)

-- the bucket of an id
abbrev pub bucket_of : List ℕ → ℕ → ℕ
bucket_of id buckets = bit_and (murmur3 id 0) (buckets - 1)

-- the least hash under a route: its own with all open bits 0, and the least of all where no bit is fixed
unfoldable pub least_under : List ℕ → ℤ
least_under route =
    let block = 2 ^ open_bits (parts route) in
    if open_bits (parts route) == 32 then negsuc (2 ^ 31 - 1) else cast_signed w32 (route_bits route / block * block)

-- the greatest hash under a route: its own with all open bits 1, and the greatest of all where no bit is fixed
unfoldable pub greatest_under : List ℕ → ℤ
greatest_under route =
    let block = 2 ^ open_bits (parts route) in
    if open_bits (parts route) == 32 then pos (2 ^ 31 - 1) else cast_signed w32 (route_bits route / block * block + (block - 1))

-- h has all the bits that a route fixes
abbrev pub HasFixedBits : List ℕ → ℤ → Type 0
HasFixedBits route h = cast_unsigned w32 h / 2 ^ open_bits (parts route) ≡ route_bits route / 2 ^ open_bits (parts route)

-- the last part of a route is empty after other parts
abbrev pub IsOpenRoute : List ℕ → Type 0
IsOpenRoute route = IsTrue (ends_open (parts route))

-- an id has a route's parts before the last one, by their keys and with the same bit counts, and any last part
abbrev pub IsUnder : List ℕ → List ℕ → Type 0
IsUnder id route = fixed_shares (parts id) ≡ fixed_shares (parts route)
