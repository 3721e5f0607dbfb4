-- The password (02, order 4; 003's lock section): the block of 42, which operations succeed, and what becomes of the password. This
-- file alone looks at it.
use Rattle.std.specs.Prelude.{Bool, true, false, cond, not, ◌&&◌, List, [], ◌++◌, ℕ, ◌+◌, ◌-◌, ◌%◌, ◌^◌, eqb, leb, length, take, drop, get_or, replicate}
use Rattle.card.specs.declared.Password.{Password}
use Rattle.card.specs.declared.lock.Operation.{Operation}
use Rattle.card.specs.declared.lock.Operation.TheVariants.{ForceErase, Lock, Unlock, ClearPassword, SetPassword, Invalid}
use Rattle.card.specs.Settings.{PASSWORD}
use Rattle.card.specs.Soundness.{equal}

-- ---- passwords

-- as it is stored: bytes behind its length are zero
abbrev pub password_of : List ℕ → Password
password_of s = record { bytes = s ++ replicate (PASSWORD - length s) 0; length = length s }

abbrev pub no_password : Password
no_password = password_of []

-- the bytes that count
abbrev pub content : Password → List ℕ
content p = take p.length p.bytes

abbrev pub is_set : Password → Bool
is_set p = leb 1 p.length

-- ---- the block of 42

-- bits 3..0 of the first byte: ERASE, LOCK_UNLOCK, CLR_PWD, SET_PWD; bits 7..4 are reserved
unfoldable pub operation_of : ℕ → Operation
operation_of byte =
    let bits = byte % 2 ^ 4 in
    cond (eqb bits 8) ForceErase
    (cond (eqb bits 4) Lock
    (cond (eqb bits 0) Unlock
    (cond (eqb bits 2) ClearPassword
    (cond (eqb bits 1) (SetPassword false)
    (cond (eqb bits 5) (SetPassword true) Invalid)))))

abbrev pub operation : List ℕ → Operation
operation s = operation_of (get_or s 0 0)

-- the second byte, and so many bytes behind it: the password, or the old one and a new one
abbrev pub PWDS_LEN : List ℕ → ℕ
PWDS_LEN s = get_or s 1 0

abbrev pub password_data : List ℕ → List ℕ
password_data s = take (PWDS_LEN s) (drop 2 s)

-- the block is not too short for its fields
abbrev pub complete : List ℕ → Bool
complete s = leb (2 + PWDS_LEN s) (length s)

-- ---- which operations succeed

-- the data starts with the password
abbrev pub begins : Password → List ℕ → Bool
begins p d = equal (take p.length d) (content p)

-- the password and nothing behind it
unfoldable pub matches : Password → List ℕ → Bool
matches p d = begins p d && eqb (length d) p.length

-- the password, if one is set, and behind it a new one of 1 to 16 bytes
unfoldable pub replaces : Password → List ℕ → Bool
replaces p d = begins p d && (leb (p.length + 1) (length d) && leb (length d) (p.length + PASSWORD))

-- by the operation, the lock, permanent protection, the password and the block
unfoldable pub succeeds : Operation → Bool → Bool → Password → List ℕ → Bool
succeeds ForceErase locked permanent p s = locked && not permanent
succeeds Lock locked permanent p s = not locked && (is_set p && (complete s && matches p (password_data s)))
succeeds Unlock locked permanent p s = locked && (complete s && matches p (password_data s))
succeeds ClearPassword locked permanent p s = is_set p && (complete s && matches p (password_data s))
succeeds (SetPassword lock) locked permanent p s = complete s && replaces p (password_data s)
succeeds Invalid locked permanent p s = false

-- ---- what becomes of the password where the operation succeeds

unfoldable pub changed : Operation → Password → List ℕ → Password
changed ForceErase p s = no_password
changed Lock p s = p
changed Unlock p s = p
changed ClearPassword p s = no_password
changed (SetPassword lock) p s = password_of (drop p.length (password_data s))
changed Invalid p s = p
