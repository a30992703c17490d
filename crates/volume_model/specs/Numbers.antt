-- The number of each fault, as the program prints it.
use Rattle.std.specs.Prelude.{ℕ}
use Rattle.volume_model.specs.declared.fault.Fault.{Fault}
use Rattle.volume_model.specs.declared.fault.Fault.TheVariants.{Short, BadField, Trailing, NoMemory, BadCount, TooDeep, NotAMember, Malformed, NoSuchItem, NotDead, NoClash, NotAll, TooFewPicked, BadPair, CountTooSmall, BranchCount, BadParent, MemberReused, NoCertificate, Certificate, OverLimit, Superseded, NotInPlan, NoGroup, EpochsSpent, AllGrown, StaleVolume, StaleMember, AheadMember, NotInstalled, NotWhole, Full, AlreadyWhole, NotEnough, NoRecord, BadPiece, TailSegment, PointAhead, SeriesSpent, NotOpen, LimitReached, BadTransaction, LsnSpent, NotReady, AlreadyDone, NoLogRecord, NotJoined, NoMessage, NotAddressed, NoActor, NoSlot, JournalFull}

-- the number of a fault
abbrev pub number_of : Fault → ℕ
number_of Short = 1
number_of BadField = 2
number_of Trailing = 3
number_of NoMemory = 9
number_of BadCount = 10
number_of TooDeep = 11
number_of NotAMember = 12
number_of Malformed = 13
number_of NoSuchItem = 20
number_of NotDead = 21
number_of NoClash = 22
number_of NotAll = 23
number_of TooFewPicked = 24
number_of BadPair = 25
number_of CountTooSmall = 26
number_of BranchCount = 27
number_of BadParent = 30
number_of MemberReused = 31
number_of NoCertificate = 32
number_of Certificate = 33
number_of OverLimit = 34
number_of Superseded = 40
number_of NotInPlan = 41
number_of NoGroup = 42
number_of EpochsSpent = 43
number_of AllGrown = 44
number_of StaleVolume = 50
number_of StaleMember = 51
number_of AheadMember = 52
number_of NotInstalled = 53
number_of NotWhole = 54
number_of Full = 55
number_of AlreadyWhole = 56
number_of NotEnough = 57
number_of NoRecord = 58
number_of BadPiece = 59
number_of TailSegment = 60
number_of PointAhead = 61
number_of SeriesSpent = 62
number_of NotOpen = 70
number_of LimitReached = 71
number_of BadTransaction = 72
number_of LsnSpent = 73
number_of NotReady = 74
number_of AlreadyDone = 75
number_of NoLogRecord = 76
number_of NotJoined = 77
number_of NoMessage = 80
number_of NotAddressed = 81
number_of NoActor = 82
number_of NoSlot = 83
number_of JournalFull = 84
